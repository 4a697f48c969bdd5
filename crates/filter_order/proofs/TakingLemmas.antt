-- The references to some versions, which are taken or put back one after the other, and what each
-- version did.
use Rattle.std.proofs.Common.{drop-cons, ◌≡◌, ℕ, suc, ◌+◌, ◌<◌, ◌≤◌, ◌++◌, Bool, true, false, cond, eqb, List, [], ◌∷◌, length, get_or, set, drop, slice_get, option_map, Option, Some, None, refl, ap, sym, ◌∙◌, subst, arith, add-one, ◌⊎◌, inl, inr}
use Rattle.std.specs.List.{All, cons_option}
use Rattle.std.specs.Option.{IfSome, option_to_list}
use Rattle.std.specs.Int.{bit_at}
use Rattle.std.proofs.lemmas.List.{append_assoc, append-nil, length-append, length-set}
use Rattle.std.proofs.Math.ListN.{get_or-append}
use Rattle.std.proofs.lemmas.Bool.{cases_lt}
use Rattle.std.proofs.lemmas.List.Elements.{All-head}
use Rattle.std.proofs.lemmas.Option.{none-some, same_Some, slice_get-get_or, slice_get_past}
use Rattle.batch_flow.specs.Rows.{Rows}
use Rattle.dimension_filter.specs.declared.drop_tally.DropTally.{DropTally}
use Rattle.filter_order.specs.Filtered.{FilterVersion, version_at, with_tally}
use Rattle.filter_order.specs.Filters.{left_of, plus, with_each_done}
use Rattle.filter_order.specs.Spares.{AreApart, HasPlace, IsSpareFor, Spares, is_present, with_all_returned, with_all_taken, with_returned, with_spare}
use Rattle.filter_order.proofs.SpareLemmas.{place-of, places-stay, spare-apart}

-- of what is left to pass from some place of the order on, the version of the filter there comes
-- first
pub left-next : (versions : List FilterVersion) (rows : Rows) (order : List ℕ) (place d : ℕ)
    (first : Option FilterVersion)
    → place < length order
    → first ≡ cond (eqb (bit_at rows.passed (get_or order place d)) 1) None
    (version_at versions (get_or order place d))
    → left_of versions rows (drop place order)
    ≡ cons_option first (left_of versions rows (drop (place + 1) order))
left-next versions rows order place d first low is =
    rw (add-one place)
    (ap (left_of versions rows) (drop-cons order place d low)
    ∙ ap (λ one. cons_option one (left_of versions rows (drop (suc place) order))) (sym is))

-- what holds of all holds of the first, if there is one
pub first-holds : {V : Type 0} (first : Option V) (plain : V → FilterVersion)
    (P : FilterVersion → Type 0) (rest : List FilterVersion)
    → All P (cons_option (option_map plain first) rest)
    → IfSome first (λ version. P (plain version))
first-holds None plain P rest all = tt
first-holds (Some version) plain P rest all = All-head P (plain version) rest all

-- the references once one of a seat is taken, and what is still to take
pub record IsTakenOne (seat : ℕ) (before after : Spares) (made new : List FilterVersion)
    (all rest : List FilterVersion) : Type 0 where
  pub long : length new ≤ length made + 1
  pub versions : new ++ rest ≡ made ++ all
  pub apart : AreApart rest
  pub kept : All (IsSpareFor seat after) rest
  pub left : with_all_taken seat rest after ≡ with_all_taken seat all before

pub taken-one : (seat : ℕ) (before after : Spares) (versions new : List FilterVersion)
    (o : Option FilterVersion) (rest : List FilterVersion)
    → AreApart (cons_option o rest) → All (IsSpareFor seat before) (cons_option o rest)
    → new ≡ versions ++ option_to_list o → after ≡ with_all_taken seat (option_to_list o) before
    → IsTakenOne seat before after versions new (cons_option o rest) rest
taken-one seat before after versions new None rest apart kept put taken = record {
  long = let same : length new ≡ length versions =
      ap length (put ∙ append-nil versions) in omega arith;
  versions = ap (λ list. list ++ rest) (put ∙ append-nil versions);
  apart = apart;
  kept = subst (λ spares. All (IsSpareFor seat spares) rest) (sym taken) kept;
  left = ap (with_all_taken seat rest) taken;
}
taken-one seat before after versions new (Some version) rest apart kept put taken = record {
  long = let same : length new ≡ length versions + 1 =
      ap length put ∙ length-append versions (version ∷ []) in omega arith;
  versions = ap (λ list. list ++ rest) put ∙ append_assoc versions (version ∷ []) rest;
  apart = λ j k d low inside. apart (suc j) (suc k) d (omega arith) (omega arith);
  kept = subst (λ spares. All (IsSpareFor seat spares) rest) (sym taken) others;
  left = ap (with_all_taken seat rest) taken;
}
  where
    others : All (IsSpareFor seat (with_spare version.filter.dimension seat None before)) rest
    others = λ k d low.
        let here = place-of version.filter.dimension seat version.filter before
        (kept 0 d (omega arith)) in
        let there = place-of (get_or rest k d).filter.dimension seat (get_or rest k d).filter before
        (kept (suc k) d (omega arith)) in
        spare-apart version.filter.dimension seat (get_or rest k d).filter.dimension seat None
        before there.listed
        (λ same. absurd (apart 0 (suc k) d (omega arith) (omega arith) (sym same)))
        ∙ kept (suc k) d (omega arith)

-- the last of some versions is given first
pub returned-last : (seat : ℕ) (present versions : List FilterVersion) (version : FilterVersion)
    (spares : Spares)
    → with_all_returned seat present (versions ++ version ∷ []) spares
    ≡ with_all_returned seat present versions
    (with_returned seat version (is_present present version) spares)
returned-last seat present [] version spares = refl
returned-last seat present (first ∷ versions) version spares =
    ap (with_returned seat first (is_present present first))
    (returned-last seat present versions version spares)

-- a place is there after as before
pub place-returned : (seat : ℕ) (version : FilterVersion) (is : Bool) (spares : Spares)
    (dimension : ℕ)
    → HasPlace dimension seat spares
    → HasPlace dimension seat (with_returned seat version is spares)
place-returned seat version false spares dimension place = place
place-returned seat version true spares dimension place =
    let long : length (with_spare version.filter.dimension seat (Some version.filter) spares)
    ≡ length spares
    = length-set spares version.filter.dimension
    (set (get_or spares version.filter.dimension []) seat (Some version.filter)) in
    let within = place.within in
    let listed = place.listed in
    let same = places-stay version.filter.dimension seat dimension
    (Some version.filter) spares listed in
    record { listed = omega arith; within = omega arith }

-- each of the others still has its place as the last is given
pub places-left : (seat : ℕ) (present all versions : List FilterVersion) (version : FilterVersion)
    (before after : Spares) (is : Bool)
    → all ≡ versions ++ version ∷ [] → after ≡ with_returned seat version is before
    → All (λ one. is_present present one ≡ true → HasPlace one.filter.dimension seat before) all
    → All (λ one. is_present present one ≡ true → HasPlace one.filter.dimension seat after) versions
places-left seat present all versions version before after is whole given places = λ k d low same.
    let long : length all ≡ length versions + 1 =
    ap length whole ∙ length-append versions (version ∷ []) in
    let at : get_or all k d ≡ get_or versions k d =
    ap (λ list. get_or list k d) whole ∙ get_or-append versions (version ∷ []) d k low in
    subst (λ spares. HasPlace (get_or versions k d).filter.dimension seat spares) (sym given)
    (place-returned seat version is before (get_or versions k d).filter.dimension
    (subst (λ (one : FilterVersion). HasPlace one.filter.dimension seat before) at
    (places k d (omega arith) (ap (is_present present) at ∙ same))))

-- from the place of a member on that member comes first
pub drop-found : {X : Type 0} (xs : List X) (i : ℕ) (x : X) → slice_get xs i ≡ Some x
    → drop i xs ≡ x ∷ drop (i + 1) xs
drop-found xs i x found = by_cases (cases_lt i (length xs))
  where
    by_cases : (i < length xs) ⊎ (length xs ≤ i) → drop i xs ≡ x ∷ drop (i + 1) xs
    by_cases (inl low) =
        let here : get_or xs i x ≡ x = same_Some _ _ (sym (slice_get-get_or xs i x low) ∙ found) in
        rw (add-one i) (drop-cons xs i x low ∙ ap (λ y. y ∷ drop (suc i) xs) here)
    by_cases (inr past) = absurd (none-some x (sym (slice_get_past xs i past) ∙ found))

-- what each did from some place on, of which the first is added
pub done-next : (versions present : List FilterVersion) (done tallies after : List DropTally)
    (place : ℕ) (version : FilterVersion) (more : DropTally)
    → slice_get versions place ≡ Some version → slice_get done place ≡ Some more
    → after ≡ with_tally version.filter.dimension (plus more) present tallies
    → with_each_done (drop (place + 1) versions) (drop (place + 1) done) present after
    ≡ with_each_done (drop place versions) (drop place done) present tallies
done-next versions present done tallies after place version more found did added =
    ap (with_each_done (drop (place + 1) versions) (drop (place + 1) done) present) added
    ∙ (λ i. with_each_done (sym (drop-found versions place version found) i)
    (sym (drop-found done place more did) i) present tallies)
