-- What a scan's slots say, and a roster that is found in them: the same end of a cut, and the same sets of slots.
use Rattle.core_state.proofs.Words.{◌++◌, ◌+◌, ◌<◌, ◌∙◌, ◌∷◌, ◌≡◌, [], ap, append-nil, arith, Bool, cond, cons_option, end_at_start, false, filter, filter-append, filter_map, filter_map-append, fold-append, get_or, length, List, None, OnRoster, Option, option_map, option_map_or, range_with_len, refl, Running, slots_of, Some, suc, sym, true, with_number, zero, ℕ}
use Rattle.std.specs.Prelude.{fold}
use Rattle.continuous_scan.specs.Stamped.{numbers_below}
use Rattle.continuous_scan.proofs.EndLemmas.{lowered}
use Rattle.continuous_scan.proofs.LapLemmas.{range_parts}

-- an end is lowered to the starts that are found in the slots
pub same-end : (starts : ℕ → Option ℕ) (first end from : ℕ) (running : List (Option Running))
    → ((slot : ℕ) → slot < length running → starts (from + slot) ≡ option_map (λ r. r.start) (get_or running slot None))
    → fold (end_at_start first) end running ≡ fold (lowered first) end (filter_map starts (range_with_len from (length running)))
same-end starts first end from [] each = refl
same-end starts first end from (slot ∷ running) each =
    by_slot slot here (λ later. same-end starts first later (from + 1) running rest)
  where
    here : starts from ≡ option_map (λ r. r.start) slot
    here = let at : from ≡ from + 0 = omega arith in ap starts at ∙ each 0 (omega arith)

    rest : (k : ℕ) → k < length running → starts (from + 1 + k) ≡ option_map (λ r. r.start) (get_or running k None)
    rest k low = let at : from + 1 + k ≡ from + suc k = omega arith in ap starts at ∙ each (suc k) (omega arith)

    by_slot : (s : Option Running) → starts from ≡ option_map (λ r. r.start) s
        → ((later : ℕ) → fold (end_at_start first) later running
        ≡ fold (lowered first) later (filter_map starts (range_with_len (from + 1) (length running))))
        → fold (end_at_start first) (end_at_start first end s) running
        ≡ fold (lowered first) end (cons_option (starts from) (filter_map starts (range_with_len (from + 1) (length running))))
    by_slot None is behind =
        behind end
        ∙ ap (λ o. fold (lowered first) end (cons_option o (filter_map starts (range_with_len (from + 1) (length running))))) (sym is)
    by_slot (Some r) is behind =
        behind (lowered first end r.start)
        ∙ ap (λ o. fold (lowered first) end (cons_option o (filter_map starts (range_with_len (from + 1) (length running))))) (sym is)

-- a slot more on a roster is a slot more in the set, where it passes
pub slots-more : (p : OnRoster → Bool) (roster : List OnRoster) (entry : OnRoster)
    → slots_of (filter p (roster ++ entry ∷ []))
    ≡ cond {A = ℕ} (p entry) (with_number (slots_of (filter p roster)) entry.slot) (slots_of (filter p roster))
slots-more p roster entry =
    ap slots_of (filter-append p roster (entry ∷ []))
    ∙ fold-append (λ slots (e : OnRoster). with_number slots e.slot) 0 (filter p roster) (filter p (entry ∷ []))
    ∙ by_test (p entry)
  where
    by_test : (t : Bool)
        → fold (λ slots (e : OnRoster). with_number slots e.slot) (slots_of (filter p roster)) (cond {A = List OnRoster} t (entry ∷ []) [])
        ≡ cond {A = ℕ} t (with_number (slots_of (filter p roster)) entry.slot) (slots_of (filter p roster))
    by_test true = refl
    by_test false = refl

-- the numbers below n for which a test holds are the slots of a roster whose entries pass
pub same-slots : (found : ℕ → Option OnRoster) (p : OnRoster → Bool) (holds : ℕ → Bool) (n : ℕ)
    → ((k : ℕ) (entry : OnRoster) → found k ≡ Some entry → entry.slot ≡ k)
    → ((k : ℕ) → k < n → holds k ≡ option_map_or p (found k) false)
    → numbers_below n holds ≡ slots_of (filter p (filter_map found (range_with_len 0 n)))
same-slots found p holds zero own each = refl
same-slots found p holds (suc n) own each =
    by_found (same-slots found p holds n own (λ k low. each k (omega arith))) (found n) refl (each n (omega arith))
    ∙ ap (λ entries. slots_of (filter p entries)) (sym (filter_map-append found (range_with_len 0 n) (n ∷ [])))
    ∙ ap (λ numbers. slots_of (filter p (filter_map found numbers))) (sym (range_parts 0 n 1 (suc n) n (omega arith) (omega arith)))
  where
    before : List OnRoster
    before = filter_map found (range_with_len 0 n)

    by_found : numbers_below n holds ≡ slots_of (filter p before) → (o : Option OnRoster) → found n ≡ o → holds n ≡ option_map_or p o false
        → cond {A = ℕ} (holds n) (with_number (numbers_below n holds) n) (numbers_below n holds)
        ≡ slots_of (filter p (before ++ cons_option o []))
    by_found so_far None is test =
        ap (λ t. cond {A = ℕ} t (with_number (numbers_below n holds) n) (numbers_below n holds)) test
        ∙ so_far
        ∙ ap (λ entries. slots_of (filter p entries)) (sym (append-nil before))
    by_found so_far (Some entry) is test =
        ap (λ t. cond {A = ℕ} t (with_number (numbers_below n holds) n) (numbers_below n holds)) test
        ∙ ap (λ set. cond {A = ℕ} (p entry) (with_number set n) set) so_far
        ∙ ap (λ number. cond {A = ℕ} (p entry) (with_number (slots_of (filter p before)) number) (slots_of (filter p before))) (sym (own n entry is))
        ∙ sym (slots-more p before entry)

-- where all pass, all are kept
pub all-kept : {X : Type 0} (xs : List X) → filter (λ x. true) xs ≡ xs
all-kept [] = refl
all-kept {X = X} (x ∷ xs) = ap (λ rest. x ∷ rest) (all-kept xs)
