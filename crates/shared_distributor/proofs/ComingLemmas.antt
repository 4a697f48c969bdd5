-- What a slot has, and what a seat has there, as the seat's groups come home, are made anew, or go out.
use Rattle.std.proofs.Common.{◌≡◌, ℕ, ◌<◌, Bool, false, cond, true≢false, List, [], ◌∷◌, length, map, get_or, set, refl, ap, sym, subst, ◌∙◌, inl, inr, ◌⊎◌}
use Rattle.std.specs.List.{list_any}
use Rattle.std.specs.Prelude.{All, Option, None, Some, Result, Ok, Err, option_map, IfSome, IsTrue, IsSome, IsOk, OnOk, OnErr, is_err}
use Rattle.std.proofs.lemmas.List.{get_or-set_same, get_or-set_other, length-set}
use Rattle.std.proofs.lemmas.List.Elements.{All-cons, All-nil}
use Rattle.std.proofs.lemmas.Option.{same_Some}
use Rattle.star_values.specs.declared.value.Value as cell
use Rattle.star_plan.specs.declared.item.Item.{Item}
use Rattle.star_plan.specs.declared.item.Item.TheVariants.{Plain, CountAll, Count, Sum, Min, Max}
use Rattle.star_plan.specs.declared.place.Place.{Place}
use Rattle.aggregations.specs.Absorbing.{first_of, with_all, without_rows}
use Rattle.aggregations.specs.Folding.{has_key, key_by, no_rows}
use Rattle.aggregations.specs.Grouped.{AreOfItems, Group, Grouped, tally_of}
use Rattle.aggregations.specs.Taken.{HasFirst, HasKeysOf, HasNoText, HaveNoTexts, with_keys_of}
use Rattle.distributor.specs.Adding.{HaveSamePlaces, with_slot_keys}
use Rattle.shared_distributor.specs.Apart.{HasLanded, HasMoved, HasSettled, IsApart, IsPair, IsPart, LeavesOthers, MayFoldApart, MayLand, count_in}
use Rattle.shared_distributor.proofs.OwnLemmas.{comes, grown-all, grown-same, keys_of_made, made, made_folded, both, stays}

-- Results.

on_ok : {T E : Type 0} (r : Result T E) (P : Type 0) → IsOk r → OnOk r P → P
on_ok (Ok x) P ok on = on
on_ok (Err e) P ok on = absurd (cc ok)

either : {T E : Type 0} (r : Result T E) (P Q : Type 0) → OnOk r P → OnErr r Q → P ⊎ Q
either (Ok x) P Q on err = inl on
either (Err e) P Q on err = inr err

-- Slots.

-- one slot is written
pub leaves-set : (old new : List (Option Grouped)) (slot : ℕ) (x : Option Grouped) → new ≡ set old slot x → LeavesOthers slot old new
leaves-set old new slot x is = record {
  long = ap (λ (them : List (Option Grouped)). length them) is ∙ length-set old slot x;
  others = λ other apart. ap (λ (them : List (Option Grouped)). get_or them other None) is ∙ get_or-set_other old slot other x None apart;
}

pub at-set : (old new : List (Option Grouped)) (slot : ℕ) (x : Option Grouped) → slot < length old → new ≡ set old slot x → get_or new slot None ≡ x
at-set old new slot x low is = ap (λ (them : List (Option Grouped)). get_or them slot None) is ∙ get_or-set_same old slot x None low

-- Nothing changes.

pub moved-same : (home own : Option Grouped) → IsPart home own → HasMoved [] home own home own
moved-same None own part = record { seen = refl; grown = tt; part = part }
moved-same (Some home) own part = record { seen = refl; grown = grown-same home; part = part }

-- a slot without groups
pub moved-none : (rows : List (Place → cell.Value)) (home own later kept : Option Grouped) → home ≡ None → later ≡ None
    → HasMoved rows home own later kept
moved-none rows home own later kept none then =
    let P : Option Grouped → Type 0 = λ o. HasMoved rows o own later kept in
    let Q : Option Grouped → Type 0 = λ o. HasMoved rows None own o kept in
    subst P (sym none) (subst Q (sym then) (record { seen = refl; grown = tt; part = tt }))

pub none-of : (o : Option Grouped) → (IsSome o → ⊥) → o ≡ None
none-of None not = refl
none-of (Some groups) not = absurd (not refl)

-- Groups of a seat come home.

pub back-moved : MayFoldApart → (home : Option Grouped) (other : Grouped) (later : Option Grouped) → IsPair home (Some other)
    → ((rows : List (Place → cell.Value)) → IfSome home (λ groups. other ≡ with_all rows (without_rows groups))
    → (later ≡ option_map (with_all rows) home) ⊎ (later ≡ None))
    → (IfSome home (HasKeysOf other) → HaveNoTexts other → (rows : List (Place → cell.Value))
    → IfSome home (λ groups. other ≡ with_all rows (without_rows groups))
    → later ≡ option_map (with_all rows) home)
    → HasMoved [] home (Some other) later None
back-moved laws None other later pair taken known =
    moved-none [] None (Some other) later None refl (elim (taken [] tt) [ inl is ↦ is | inr is ↦ is ])
back-moved laws (Some home) other later pair taken known =
    let apart : IsApart home other = pair.part in
    let P : Option Grouped → Type 0 = λ o. HasMoved [] (Some home) (Some other) o None in
    subst P (sym (known apart.keys apart.plain apart.rows apart.folded))
    (record {
      seen = ap Some (sym (laws.absorbed apart.rows other home pair.shaped apart.folded));
      grown = grown-all apart.rows home;
      part = tt;
    })

-- rows of which a seat's groups are made
part-rows : (home : Option Grouped) (other : Grouped) → IsPart home (Some other)
    → (rows : List (Place → cell.Value)) × IfSome home (λ groups. other ≡ with_all rows (without_rows groups))
part-rows None other part = ([], tt)
part-rows (Some home) other part = (part.rows, part.folded)

module _ {T E : Type 0} (r : Result T E) (home later : List (Option Grouped)) (slot : ℕ) (other : Grouped)
    (taken : (rows : List (Place → cell.Value)) → IfSome (get_or home slot None) (λ groups. other ≡ with_all rows (without_rows groups))
    → OnOk r (later ≡ set home slot (option_map (with_all rows) (get_or home slot None))))
    (err : OnErr r (later ≡ set home slot None)) where
  pub leaves-absorbed : (rows : List (Place → cell.Value)) → IfSome (get_or home slot None) (λ groups. other ≡ with_all rows (without_rows groups))
      → LeavesOthers slot home later
  leaves-absorbed rows are =
      elim (either r (later ≡ set home slot (option_map (with_all rows) (get_or home slot None))) (later ≡ set home slot None) (taken rows are)
      err) [
        | inl is ↦ leaves-set home later slot (option_map (with_all rows) (get_or home slot None)) is
        | inr is ↦ leaves-set home later slot None is
      ]

  pub leaves-back : (own : Option Grouped) → own ≡ Some other → IsPair (get_or home slot None) own → LeavesOthers slot home later
  leaves-back own is pair =
      let part = subst (λ (o : Option Grouped). IsPart (get_or home slot None) o) is pair.part in
      let rows = part-rows (get_or home slot None) other part in
      leaves-absorbed rows.0 rows.1

  pub moved-back : MayFoldApart → slot < length home → (own : Option Grouped) → own ≡ Some other → IsPair (get_or home slot None) own
      → (IfSome (get_or home slot None) (HasKeysOf other) → HaveNoTexts other → IsOk r)
      → HasMoved [] (get_or home slot None) own (get_or later slot None) None
  moved-back laws low own is pair known =
      let P : Option Grouped → Type 0 = λ o. HasMoved [] (get_or home slot None) o (get_or later slot None) None in
      let at = λ (x : Option Grouped) (e : later ≡ set home slot x). at-set home later slot x low e in
      subst P (sym is)
      (back-moved laws (get_or home slot None) other (get_or later slot None) (subst (λ (o : Option Grouped). IsPair (get_or home slot None) o) is
      pair)
      (λ rows are. elim (either r (later ≡ set home slot (option_map (with_all rows) (get_or home slot None))) (later ≡ set home slot None)
      (taken rows are) err) [
        | inl e ↦ inl (at (option_map (with_all rows) (get_or home slot None)) e)
        | inr e ↦ inr (at None e)
      ])
      (λ keys plain rows are.
      at (option_map (with_all rows) (get_or home slot None))
      (on_ok r (later ≡ set home slot (option_map (with_all rows) (get_or home slot None))) (known keys plain) (taken rows are))))

  some_if : (o : Option Grouped) (groups : Grouped) (P : Grouped → Type 0) → o ≡ Some groups → P groups → IfSome o P
  some_if o groups P is p = subst (λ (x : Option Grouped). IfSome x P) (sym is) p

  settled_by : (own kept : Option Grouped) → own ≡ Some other → kept ≡ None → slot < length home → (q : Result T E) → r ≡ q
      → (IfSome (get_or home slot None) (HasKeysOf other) → HaveNoTexts other → IsOk r)
      → HasSettled (is_err q) (get_or home slot None) own (get_or later slot None) kept
  settled_by own kept is none low (Ok x) same known = record {
    ok = λ e. inr (
      subst (λ (o : Option Grouped). IsSome o) (sym is) refl,
      none,
      λ rows groups there are.
          let its : IfSome (get_or home slot None) (λ own_groups. other ≡ with_all rows (without_rows own_groups)) =
          some_if (get_or home slot None) groups (λ own_groups. other ≡ with_all rows (without_rows own_groups)) there
          (same_Some other (with_all rows (without_rows groups)) (sym is ∙ are)) in
          at-set home later slot (option_map (with_all rows) (get_or home slot None)) low
          (subst (λ (p : Result T E). OnOk p (later ≡ set home slot (option_map (with_all rows) (get_or home slot None)))) same (taken rows its))
          ∙ ap (option_map (with_all rows)) there,
    );
    err = λ e. absurd (true≢false (sym e));
  }
  settled_by own kept is none low (Err x) same known = record {
    ok = λ e. absurd (true≢false e);
    err = λ e. (
      at-set home later slot None low (subst (λ (p : Result T E). OnErr p (later ≡ set home slot None)) same err),
      subst (λ (o : Option Grouped). IsSome o) (sym is) refl,
      λ groups its there here keys plain.
          let alike : its ≡ other = same_Some its other (sym here ∙ is) in
          let ok : IsOk r = known
          (some_if (get_or home slot None) groups (HasKeysOf other) there (subst (λ g. HasKeysOf g groups) alike keys))
          (subst HaveNoTexts alike plain) in
          let never : IsOk {T = T} {E = E} (Err x) = subst (λ (p : Result T E). IsOk p) same ok in
          absurd (cc never),
    );
  }

  pub settled : (own kept : Option Grouped) → own ≡ Some other → kept ≡ None → slot < length home
      → (IfSome (get_or home slot None) (HasKeysOf other) → HaveNoTexts other → IsOk r)
      → HasSettled (is_err r) (get_or home slot None) own (get_or later slot None) kept
  settled own kept is none low known = settled_by own kept is none low r refl known

-- Groups of no rows go out.

bare_tallies : (items : List Item) → All HasNoText (map (tally_of []) items)
bare_tallies [] = All-nil HasNoText
bare_tallies (item ∷ items) = All-cons HasNoText (tally_of [] item) (map (tally_of []) items) (by item) (bare_tallies items)
  where
    by : (one : Item) → HasNoText (tally_of [] one)
    by (Plain place) = tt
    by CountAll = tt
    by (Count place) = tt
    by (Sum place) = tt
    by (Min place) = tt
    by (Max place) = tt

bare_groups : (places : List Place) (items : List Item) → All (λ (group : Group). All HasNoText group.tallies) (first_of places items)
bare_groups [] items = All-cons (λ (group : Group). All HasNoText group.tallies) (no_rows items []) [] (bare_tallies items)
    (All-nil (λ (group : Group). All HasNoText group.tallies))
bare_groups (place ∷ places) items = All-nil (λ (group : Group). All HasNoText group.tallies)

fresh : (home : Grouped) → HasFirst home → HasMoved [] (Some home) None (Some home) (Some (without_rows home))
fresh home first = record {
  seen = refl;
  grown = grown-same home;
  part = record {
    rows = [];
    folded = refl;
    known = All-nil (λ (values : Place → cell.Value). IsTrue (list_any (has_key (key_by values home)) home.groups));
    keys = first;
    plain = bare_groups home.places home.items;
  };
}

pub moved-fresh : (home own kept : Option Grouped) → IfSome home HasFirst → own ≡ None → kept ≡ option_map without_rows home
    → HasMoved [] home own home kept
moved-fresh None own kept first none is = moved-none [] None own None kept refl refl
moved-fresh (Some home) own kept first none is =
    let P : Option Grouped → Type 0 = λ o. HasMoved [] (Some home) o (Some home) kept in
    let Q : Option Grouped → Type 0 = λ o. HasMoved [] (Some home) None (Some home) o in
    subst P (sym none) (subst Q (sym is) (fresh home first))

-- Groups of a seat come home with rows more.

module _ (laws : MayFoldApart) (home out : Grouped) (shaped : AreOfItems home) (first : HasFirst home) (apart : IsApart home out) where
  some_landed : (e : Bool) (count : ℕ) (own : Grouped) (rows : List (Place → cell.Value)) → own ≡ with_all rows out → count ≡ length out.groups
      → (later kept : Option Grouped) → HasSettled e (Some (with_keys_of count own home)) (Some own) later kept
      → HasLanded false e (Some home) (Some out) (Some own) later kept
  some_landed e count own rows is counted later kept settled =
      let at : Grouped = with_keys_of count own home in
      let same : at ≡ with_keys_of (length out.groups) own home = ap (λ (n : ℕ). with_keys_of n own home) counted in
      let S : Grouped → Type 0 = λ g. HasSettled e (Some g) (Some own) later kept in
      let settles = subst S same settled in
      record {
        moves = λ ok more folded.
            let its : own ≡ with_all more out = same_Some own (with_all more out) folded.folded in
            let P : Option Grouped → Type 0 = λ o. HasMoved more (Some home) (Some out) o kept in
            elim (settles.ok ok) [
              | inl it ↦
                  let Q : Option Grouped → Type 0 = λ o. HasMoved more (Some home) (Some out)
                  (Some (made laws home out own shaped first apart more its)) o in
                  subst P (sym it.0) (subst Q (sym it.1) (stays laws home out own shaped first apart more its it.2))
              | inr it ↦
                  let rows_of : List (Place → cell.Value) = both laws home out own shaped first apart more its in
                  let Q : Option Grouped → Type 0 = λ o. HasMoved more (Some home) (Some out)
                  (Some (with_all rows_of (made laws home out own shaped first apart more its))) o in
                  subst P (sym (it.2 rows_of (made laws home out own shaped first apart more its) refl
                  (ap Some (made_folded laws home out own shaped first apart more its))))
                  (subst Q (sym it.1) (comes laws home out own shaped first apart more its))
            ];
        spoils = λ bad.
            let it = settles.err bad in (
              it.0,
              refl,
              λ more folded. inr (λ nil.
                  let its : own ≡ with_all more out = same_Some own (with_all more out) folded.folded in
                  let bare : own ≡ out = its ∙ ap (λ (them : List (Place → cell.Value)). with_all them out) nil in
                  it.2 (made laws home out own shaped first apart more its) own refl refl (keys_of_made laws home out own shaped first apart more
                  its)
                  (subst HaveNoTexts (sym bare) apart.plain)),
            );
      }

none_landed : (e : Bool) (home own later kept : Option Grouped) → IsSome home → own ≡ None → HasSettled e home own later kept
    → HasLanded false e home None own later kept
none_landed e home own later kept some none settled = record {
  moves = λ ok rows folded.
      elim (settled.ok ok) [
        | inl it ↦
            let P : List (Place → cell.Value) → Type 0 = λ them. HasMoved them home None later kept in
            let Q : Option Grouped → Type 0 = λ o. HasMoved [] home None o kept in
            let R : Option Grouped → Type 0 = λ o. HasMoved [] home None home o in
            subst P (sym (folded.none some refl)) (subst Q (sym it.0) (subst R (sym (it.1 ∙ none)) (moved-same home None (no_part home))))
        | inr it ↦ let has = subst (λ (o : Option Grouped). IsSome o) none it.0 in absurd (cc has)
      ];
  spoils = λ bad. let has = subst (λ (o : Option Grouped). IsSome o) none (settled.err bad).1 in absurd (cc has);
}
  where
    no_part : (o : Option Grouped) → IsPart o None
    no_part None = tt
    no_part (Some groups) = tt

-- what was not lost, once its groups are made
pub landed-settled : MayFoldApart → (e : Bool) (count : ℕ) (home out own at later kept : Option Grouped) → MayLand false count home out own
    → IsSome home → IfSome home HasFirst
    → at ≡ with_slot_keys count own home → HasSettled e at own later kept → HasLanded false e home out own later kept
landed-settled laws e count None out own at later kept may some first is settled = absurd (cc some)
landed-settled laws e count (Some home) None own at later kept may some first is settled =
    let none : own ≡ None = may.rows.1.folded in
    let S : Option Grouped → Type 0 = λ o. HasSettled e o own later kept in
    none_landed e (Some home) own later kept some none
    (subst S (is ∙ ap (λ (o : Option Grouped). with_slot_keys count o (Some home)) none) settled)
landed-settled laws e count (Some home) (Some out) own at later kept may some first is settled =
    let rows = may.rows.0 in
    let has : own ≡ Some (with_all rows out) = may.rows.1.folded in
    let S : Option Grouped → Type 0 = λ o. HasSettled e o own later kept in
    let T : Option Grouped → Type 0 = λ o. HasSettled e (with_slot_keys count o (Some home)) o later kept in
    let L : Option Grouped → Type 0 = λ o. HasLanded false e (Some home) (Some out) o later kept in
    subst L (sym has)
    (some_landed laws home out may.shaped first may.part e count (with_all rows out) rows refl may.counted later kept
    (subst T has (subst S is settled)))

pub rows-given : (home own : Option Grouped) (other : Grouped) → own ≡ Some other
    → IfSome home (λ groups. IfSome own (λ its. (rows : List (Place → cell.Value)) × (its ≡ with_all rows (without_rows groups))))
    → (rows : List (Place → cell.Value)) × IfSome home (λ groups. other ≡ with_all rows (without_rows groups))
rows-given None own other is given = ([], tt)
rows-given (Some home) own other is given =
    subst (λ (o : Option Grouped). IfSome o (λ its. (rows : List (Place → cell.Value)) × (its ≡ with_all rows (without_rows home)))) is given

-- what came back is by the places of what is at home
pub places-given : (is_lost : Bool) (count : ℕ) (home out own : Option Grouped) → is_lost ≡ false → MayLand is_lost count home out own
    → HaveSamePlaces own home
places-given is_lost count home out own found may =
    subst (λ (o : Option Grouped). HaveSamePlaces o home)
    (sym (may.rows.1.folded ∙ ap (λ t. cond t None (option_map (with_all may.rows.0) out)) found)) (by may.rows.0 home out may.part)
  where
    by : (rows : List (Place → cell.Value)) (home out : Option Grouped) → IsPart home out → HaveSamePlaces (option_map (with_all rows) out) home
    by rows home None part = tt
    by rows None (Some out) part = tt
    by rows (Some home) (Some out) part =
        (grown-all rows out).places ∙ ap (λ (g : Grouped). g.places) part.folded ∙ (grown-all part.rows (without_rows home)).places

-- an answer that is no error
pub on_not_err : {T E : Type 0} (r : Result T E) (b : Bool) (P : Type 0) → b ≡ is_err r → b ≡ false → OnOk r P → P
on_not_err (Ok x) b P is fine on = on
on_not_err (Err e) b P is fine on = absurd (true≢false (sym is ∙ fine))

some_rows : MayFoldApart → (count : ℕ) (home : Grouped) (out own : Option Grouped) → IfSome (Some home) AreOfItems → HasFirst home
    → IsPart (Some home) out → count ≡ count_in out
    → (rows : List (Place → cell.Value)) → own ≡ option_map (with_all rows) out
    → IfSome (with_slot_keys count own (Some home)) (λ groups. IfSome own (λ its. (all : List (Place → cell.Value))
    × (its ≡ with_all all (without_rows groups))))
some_rows laws count home None own shaped first part counted rows is =
    subst (λ (o : Option Grouped). IfSome (with_slot_keys count o (Some home)) (λ groups. IfSome o (λ its. (all : List (Place → cell.Value))
    × (its ≡ with_all all (without_rows groups)))))
    (sym is) tt
some_rows laws count home (Some out) own shaped first part counted rows is =
    let its : Grouped = with_all rows out in
    let P : ℕ → Type 0 = λ n. (all : List (Place → cell.Value)) × (its ≡ with_all all (without_rows (with_keys_of n its home))) in
    subst (λ (o : Option Grouped). IfSome (with_slot_keys count o (Some home)) (λ groups. IfSome o (λ them. (all : List (Place → cell.Value))
    × (them ≡ with_all all (without_rows groups)))))
    (sym is)
    (subst P (sym counted) (both laws home out its shaped first part rows refl, made_folded laws home out its shaped first part rows refl))

-- once its groups are made at home, what came back is rows that were folded apart
pub settle-rows : MayFoldApart → (is_lost : Bool) (count : ℕ) (home out own at : Option Grouped) → is_lost ≡ false → MayLand is_lost count home out
    own → IfSome home HasFirst
    → at ≡ with_slot_keys count own home
    → IfSome at (λ groups. IfSome own (λ its. (rows : List (Place → cell.Value)) × (its ≡ with_all rows (without_rows groups))))
settle-rows laws is_lost count home out own at found may first is =
    subst (λ (o : Option Grouped). IfSome o (λ groups. IfSome own (λ its. (rows : List (Place → cell.Value))
    × (its ≡ with_all rows (without_rows groups))))) (sym is)
    (by home out may.shaped first may.part may.counted (may.rows.1.folded ∙ ap (λ t. cond t None (option_map (with_all may.rows.0) out)) found))
  where
    none : (o : Option Grouped) → with_slot_keys count o None ≡ None
    none None = refl
    none (Some groups) = refl

    by : (home out : Option Grouped) → IfSome home AreOfItems → IfSome home HasFirst → IsPart home out → count ≡ count_in out
        → own ≡ option_map (with_all may.rows.0) out
        → IfSome (with_slot_keys count own home) (λ groups. IfSome own (λ its. (rows : List (Place → cell.Value))
        × (its ≡ with_all rows (without_rows groups))))
    by None out shaped first part counted folded =
        subst (λ (o : Option Grouped). IfSome o (λ groups. IfSome own (λ its. (rows : List (Place → cell.Value))
        × (its ≡ with_all rows (without_rows groups))))) (sym (none own)) tt
    by (Some home) out shaped first part counted folded = some_rows laws count home out own shaped first part counted may.rows.0 folded
