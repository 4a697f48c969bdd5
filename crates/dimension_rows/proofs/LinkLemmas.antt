-- Links between places of one hash, and one place more.
use Rattle.std.proofs.Common.{◌≡◌, ℕ, suc, ◌<◌, ◌≤◌, Bool, true, false, cond, nat_eq, List, [], ◌∷◌, ◌++◌, length, length-append, get_or, slice_index, Option, Some, None, IfSome, refl, sym, ap, ◌∙◌, subst, ⊎_elim, arith}
use Rattle.std.proofs.lemmas.Bool.Decides.{nat_tests}
use Rattle.std.proofs.lemmas.List.{get_or_append_left}
use Rattle.std.proofs.Math.Seq.{get_or-append_seam}
use Rattle.std.proofs.lemmas.Bool.{cases_lt}
use Rattle.dimension_rows.specs.Links.{link_end, IsLast, AreLinked, AreNewest}

longer : {X : Type 0} (xs : List X) (x : X) → length (xs ++ x ∷ []) ≡ suc (length xs)
longer xs x = rw length-append (omega arith)

there-append : (hashes : List ℕ) (hash next : ℕ) (link : Option ℕ) → link_end link ≤ length hashes
    → IfSome link (λ place. slice_index hashes place ≡ hash) → IfSome link (λ place. slice_index (hashes ++ next ∷ []) place ≡ hash)
there-append hashes hash next None within h = tt
there-append hashes hash next (Some place) within h = get_or_append_left hashes (next ∷ []) 0 place (omega arith) ∙ h

-- a link among the first places stays when one place more has a hash
pub IsLast-append : (hashes : List ℕ) (count hash next : ℕ) (link : Option ℕ) → count ≤ length hashes
    → IsLast hashes count hash link → IsLast (hashes ++ next ∷ []) count hash link
IsLast-append hashes count hash next link few last = record {
  within = last.within;
  there = there-append hashes hash next link (let within = last.within in omega arith) last.there;
  past = λ place from low h. last.past place from low (sym (get_or_append_left hashes (next ∷ []) 0 place (omega arith)) ∙ h);
}

-- the place behind all others is the last with its hash
IsLast-own : (hashes : List ℕ) (hash : ℕ) → IsLast (hashes ++ hash ∷ []) (suc (length hashes)) hash (Some (length hashes))
IsLast-own hashes hash = record {
  within = omega arith;
  there = get_or-append_seam hashes hash [] 0;
  past = λ place from low h. absurd (omega arith);
}

-- it is none with another hash
IsLast-other : (hashes : List ℕ) (hash next : ℕ) (link : Option ℕ) → (next ≡ hash → ⊥) → IsLast hashes (length hashes) hash link
    → IsLast (hashes ++ next ∷ []) (suc (length hashes)) hash link
IsLast-other hashes hash next link other last =
    let before = IsLast-append hashes (length hashes) hash next link (omega arith) last in record {
      within = let within = last.within in omega arith;
      there = before.there;
      past = λ place from low h. ⊎_elim
          (λ early. before.past place from early h)
          (λ late. let end : place ≡ length hashes = omega arith in
          other (sym (get_or-append_seam hashes next [] 0) ∙ ap (λ k. slice_index (hashes ++ next ∷ []) k) (sym end) ∙ h))
          (cases_lt place (length hashes));
    }

newest_by : (hashes : List ℕ) (hash next : ℕ) (link : Option ℕ) (same : Bool) → nat_eq next hash ≡ same
    → IsLast hashes (length hashes) hash link
    → IsLast (hashes ++ next ∷ []) (suc (length hashes)) hash (cond same (Some (length hashes)) link)
newest_by hashes hash next link true e last =
    let same : next ≡ hash = grind (arith, nat_tests) in
    subst (λ (h : ℕ). IsLast (hashes ++ next ∷ []) (suc (length hashes)) h (Some (length hashes))) same (IsLast-own hashes next)
newest_by hashes hash next link false e last = IsLast-other hashes hash next link (grind (arith, nat_tests)) last

-- the newest places, after one place more has a hash
pub AreNewest-append : (hashes : List ℕ) (next : ℕ) (newest newer : ℕ → Option ℕ) → AreNewest hashes newest
    → ((hash : ℕ) → newer hash ≡ cond (nat_eq next hash) (Some (length hashes)) (newest hash))
    → AreNewest (hashes ++ next ∷ []) newer
AreNewest-append hashes next newest newer links is hash =
    rw (longer hashes next, is hash) (newest_by hashes hash next (newest hash) (nat_eq next hash) refl (links hash))

-- the older places, where the place more has the link that its hash had
pub AreLinked-append : (hashes : List ℕ) (next : ℕ) (older : List (Option ℕ)) (link : Option ℕ) → AreLinked hashes older
    → IsLast hashes (length hashes) next link → AreLinked (hashes ++ next ∷ []) (older ++ link ∷ [])
AreLinked-append hashes next older link links last = record {
  count = longer older link ∙ ap suc links.count ∙ sym (longer hashes next);
  each = λ place low. ⊎_elim
      (λ early. each_before hashes next older link place links early)
      (λ late. each_last hashes next older link place links (let many = longer hashes next in omega arith) last)
      (cases_lt place (length hashes));
}
  where
    each_before : (hashes : List ℕ) (next : ℕ) (older : List (Option ℕ)) (link : Option ℕ) (place : ℕ) → AreLinked hashes older → place < length hashes
        → IsLast (hashes ++ next ∷ []) place (slice_index (hashes ++ next ∷ []) place) (get_or (older ++ link ∷ []) place None)
    each_before hashes next older link place links early =
        let count = links.count in
        rw (get_or_append_left hashes (next ∷ []) 0 place early, get_or_append_left older (link ∷ []) None place (omega arith))
        (IsLast-append hashes place (slice_index hashes place) next (get_or older place None) (omega arith) (links.each place early))

    each_last : (hashes : List ℕ) (next : ℕ) (older : List (Option ℕ)) (link : Option ℕ) (place : ℕ) → AreLinked hashes older → place ≡ length hashes
        → IsLast hashes (length hashes) next link
        → IsLast (hashes ++ next ∷ []) place (slice_index (hashes ++ next ∷ []) place) (get_or (older ++ link ∷ []) place None)
    each_last hashes next older link place links end last =
        let count = links.count in
        let here : slice_index (hashes ++ next ∷ []) place ≡ next = ap (λ k. slice_index (hashes ++ next ∷ []) k) end ∙ get_or-append_seam hashes next [] 0 in
        let at : get_or (older ++ link ∷ []) place None ≡ link = ap (λ k. get_or (older ++ link ∷ []) k None) (end ∙ sym count) ∙ get_or-append_seam older link [] None in
        rw (here, at) (subst (λ (k : ℕ). IsLast (hashes ++ next ∷ []) k next link) (sym end)
        (IsLast-append hashes (length hashes) next next link (omega arith) last))
