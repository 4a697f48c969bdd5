-- How a cut goes along the lap of a query that runs.
use Rattle.core_state.proofs.Words.{◌++◌, ◌+◌, ◌-◌, ◌<◌, ◌∙◌, ◌≡◌, ◌≤◌, [], ap, append_assoc, arith, below, Bool, cond, drop, false, lap, length, length-lap, length-take-le, List, ltb, ltb-false, ltb-true, min, range_with_len, refl, still_to_come, sym, take, true, ℕ}
use Rattle.std.proofs.lemmas.List.{drop_all, drop_at, take-append-drop}
use Rattle.continuous_scan.specs.Range.{covered}
use Rattle.continuous_scan.proofs.LapLemmas.{below-range}
use Rattle.continuous_scan.proofs.StepLemmas.{CutsLap, front_taken}
use Rattle.pipeline_manager.specs.Changes as managed

-- where a front with some more is a longer front, these and what is behind that are what is behind the first
behind-front : (positions more : List ℕ) (k j : ℕ) → k ≤ length positions → take k positions ++ more ≡ take j positions
    → more ++ drop j positions ≡ drop k positions
behind-front positions more k j within front =
    sym (drop_at (take k positions) (more ++ drop j positions) k (length-take-le k positions within))
    ∙ ap (drop k) (sym (append_assoc (take k positions) more (drop j positions)))
    ∙ ap (λ xs. drop k (xs ++ drop j positions)) front
    ∙ ap (drop k) (take-append-drop j positions)

-- the positions of a cut below the extent, and what is to come behind it, are what was to come
pub cut-comes : (position length first end extent start left : ℕ) → CutsLap position length first end extent start left
    → below extent (range_with_len first (end - first)) ++ still_to_come (left - covered first end extent) (lap start extent)
    ≡ still_to_come left (lap start extent)
cut-comes position length first end extent start left cuts =
    ap (λ xs. xs ++ still_to_come (left - covered first end extent) (lap start extent))
    (below-range first end extent (let after = cuts.after in omega arith))
    ∙ ap (λ n. range_with_len first (covered first end extent) ++ drop (n - (left - covered first end extent)) (lap start extent)) (length-lap start extent)
    ∙ behind-front (lap start extent) (range_with_len first (covered first end extent)) (extent - left) (extent - (left - covered first end extent))
    (let long = length-lap start extent in omega arith)
    (front_taken position length first end extent start left cuts)
    ∙ ap (λ n. drop (n - left) (lap start extent)) (sym (length-lap start extent))

-- with nothing left behind the cut, nothing is to come
pub none-to-come : (start extent : ℕ) → still_to_come 0 (lap start extent) ≡ []
none-to-come start extent = drop_all (length (lap start extent) - 0) (lap start extent) (omega arith)

-- a cut covers as much of an extent, counted to its last position or to the one behind
pub covered-same : (first end extent : ℕ) → first < end → managed.covered first (end - 1) extent ≡ covered first end extent
covered-same first end extent after = by_test (ltb (end - 1) extent) refl
  where
    by_test : (t : Bool) → ltb (end - 1) extent ≡ t → cond {A = ℕ} t (end - 1 + 1) extent - first ≡ min end extent - first
    by_test true is = let within = ltb-true (end - 1) extent is in omega arith
    by_test false is = let past = ltb-false (end - 1) extent is in omega arith
