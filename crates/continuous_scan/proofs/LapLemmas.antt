-- A lap, and how a cut goes along it.
use Rattle.std.proofs.Common.{◌≡◌, ◌≢◌, ℕ, zero, suc, ◌<◌, ◌≤◌, ◌+◌, ◌-◌, ◌⊎◌, inl, inr, Bool, true, false, cond, ltb, eqb, List, [], ◌∷◌, ◌++◌, length, take, refl, ap, sym, ◌∙◌, arith, subst, append_assoc, append-nil, length-append}
use Rattle.std.specs.List.{range_with_len}
use Rattle.std.specs.List.Sorted.{IsPermutation}
use Rattle.std.proofs.lemmas.Bool.{ltb-true, ltb-false, eqb-true, eqb-false, lt-ltb, le-ltb}
use Rattle.std.proofs.lemmas.List.{take_at}
use Rattle.std.proofs.lemmas.List.Elements.{filter-append}
use Rattle.std.proofs.lemmas.List.FromFn.{length-range_with_len}
use Rattle.std.proofs.lemmas.List.Sorted.{IsPermutation-append_comm}
use Rattle.continuous_scan.specs.Lap.{lap, lap_from, lap_start, next_below, place_in_lap}
use Rattle.continuous_scan.specs.Range.{first_of, covered}
use Rattle.continuous_scan.specs.Calls.{below}

-- positions in a row are some of them, and then the rest
pub range_split : (a n m : ℕ) → range_with_len a (n + m) ≡ range_with_len a n ++ range_with_len (a + n) m
range_split a zero m =
    let none : 0 + m ≡ m = omega arith in
    let here : a ≡ a + 0 = omega arith in
    ap (range_with_len a) none ∙ ap (λ b. range_with_len b m) here
range_split a (suc n) m =
    let e : a + 1 + n ≡ a + suc n = omega arith in
    let more : suc n + m ≡ suc (n + m) = omega arith in
    ap (range_with_len a) more ∙ ap (λ xs. a ∷ xs) (range_split (a + 1) n m ∙ ap (λ b. range_with_len (a + 1) n ++ range_with_len b m) e)

pub range_parts : (a n m k b : ℕ) → n + m ≡ k → a + n ≡ b → range_with_len a k ≡ range_with_len a n ++ range_with_len b m
range_parts a n m k b e f = ap (range_with_len a) (sym e) ∙ range_split a n m ∙ ap (λ x. range_with_len a n ++ range_with_len x m) f

-- each test of a definition, by its cases
pub start_cases : (start extent : ℕ) → ((start < extent) × (lap_start start extent ≡ start)) ⊎ ((extent ≤ start) × (lap_start start extent ≡ 0))
start_cases start extent = by_test (ltb start extent) refl
  where
    by_test : (t : Bool) → t ≡ ltb start extent → ((start < extent) × (cond t start 0 ≡ start)) ⊎ ((extent ≤ start) × (cond t start 0 ≡ 0))
    by_test true e = inl (ltb-true start extent (sym e), refl)
    by_test false e = inr (ltb-false start extent (sym e), refl)

pub next_cases : (position extent : ℕ) → ((position < extent) × (next_below position extent ≡ position)) ⊎ ((extent ≤ position) × (next_below position extent ≡ 0))
next_cases position extent = start_cases position extent

pub first_cases : (position length : ℕ) → ((position ≡ length) × (first_of position length ≡ 0)) ⊎ ((position ≢ length) × (first_of position length ≡ position))
first_cases position length = by_test (eqb position length) refl
  where
    by_test : (t : Bool) → t ≡ eqb position length → ((position ≡ length) × (cond t 0 position ≡ 0)) ⊎ ((position ≢ length) × (cond t 0 position ≡ position))
    by_test true e = inl (eqb-true position length (sym e), refl)
    by_test false e = inr (eqb-false position length (sym e), refl)

pub place_cases : (first extent position : ℕ) → ((position < first) × (place_in_lap first extent position ≡ extent - first + position)) ⊎ ((first ≤ position) × (place_in_lap first extent position ≡ position - first))
place_cases first extent position = by_test (ltb position first) refl
  where
    by_test : (t : Bool) → t ≡ ltb position first → ((position < first) × (cond t (extent - first + position) (position - first) ≡ extent - first + position)) ⊎ ((first ≤ position) × (cond t (extent - first + position) (position - first) ≡ position - first))
    by_test true e = inl (ltb-true position first (sym e), refl)
    by_test false e = inr (ltb-false position first (sym e), refl)

pub lap_start_le : (start extent : ℕ) → lap_start start extent ≤ extent
lap_start_le start extent = elim (start_cases start extent) [ inl h ↦ omega arith | inr h ↦ omega arith ]

-- a lap is as long as the extent
pub length-lap_from : (first extent : ℕ) → first ≤ extent → length (lap_from first extent) ≡ extent
length-lap_from first extent within =
    omega (arith, length-append (range_with_len first (extent - first)) (range_with_len 0 first), length-range_with_len first (extent - first), length-range_with_len 0 first)

pub length-lap : (start extent : ℕ) → length (lap start extent) ≡ extent
length-lap start extent = length-lap_from (lap_start start extent) extent (lap_start_le start extent)

-- each position below the extent stands once in a lap
pub lap-permutation : (start extent : ℕ) → IsPermutation (lap start extent) (range_with_len 0 extent)
lap-permutation start extent =
    let t : ℕ = lap_start start extent in
    let within : t ≤ extent = lap_start_le start extent in
    let whole : range_with_len 0 extent ≡ range_with_len 0 t ++ range_with_len t (extent - t) = range_parts 0 t (extent - t) extent t (omega arith) (omega arith) in
    subst (λ xs. IsPermutation (lap start extent) xs) (sym whole) (IsPermutation-append_comm (range_with_len t (extent - t)) (range_with_len 0 t))

-- those of positions in a row that are below an extent
below_all : (first n extent : ℕ) → first + n ≤ extent → below extent (range_with_len first n) ≡ range_with_len first n
below_all first zero extent within = refl
below_all first (suc n) extent within =
    rw (lt-ltb first extent (omega arith)) (ap (λ xs. first ∷ xs) (below_all (first + 1) n extent (omega arith)))

below_none : (first n extent : ℕ) → extent ≤ first → below extent (range_with_len first n) ≡ []
below_none first zero extent past = refl
below_none first (suc n) extent past =
    rw (le-ltb first extent past) (below_none (first + 1) n extent (omega arith))

pub below-range : (first end extent : ℕ) → first ≤ end → below extent (range_with_len first (end - first)) ≡ range_with_len first (covered first end extent)
below-range first end extent ordered = by_end (ltb extent end) refl
  where
    by_first : (t : Bool) → t ≡ ltb extent first → extent < end → below extent (range_with_len first (end - first)) ≡ range_with_len first (covered first end extent)
    by_first true e less =
        let none : covered first end extent ≡ 0 = let past = ltb-true extent first (sym e) in omega arith in
        below_none first (end - first) extent (let past = ltb-true extent first (sym e) in omega arith) ∙ ap (range_with_len first) (sym none)
    by_first false e less =
        let above : first ≤ extent = ltb-false extent first (sym e) in
        let some : covered first end extent ≡ extent - first = omega arith in
        ap (below extent) (range_parts first (extent - first) (end - extent) (end - first) extent (omega arith) (omega arith))
        ∙ filter-append (λ position. ltb position extent) (range_with_len first (extent - first)) (range_with_len extent (end - extent))
        ∙ ap (λ xs. xs ++ below extent (range_with_len extent (end - extent))) (below_all first (extent - first) extent (omega arith))
        ∙ ap (λ xs. range_with_len first (extent - first) ++ xs) (below_none extent (end - extent) extent (omega arith))
        ∙ append-nil (range_with_len first (extent - first)) ∙ ap (range_with_len first) (sym some)

    by_end : (t : Bool) → t ≡ ltb extent end → below extent (range_with_len first (end - first)) ≡ range_with_len first (covered first end extent)
    by_end true e = by_first (ltb extent first) refl (ltb-true extent end (sym e))
    by_end false e =
        let within : end ≤ extent = ltb-false extent end (sym e) in
        let all : covered first end extent ≡ end - first = omega arith in
        below_all first (end - first) extent (omega arith) ∙ ap (range_with_len first) (sym all)

-- what stands in front in a list, with what stands behind it, is the front that is longer by as much
front_more : (a b c l : List ℕ) (k j : ℕ) → l ≡ (a ++ b) ++ c → length a ≡ k → k + length b ≡ j → take k l ++ b ≡ take j l
front_more a b c l k j is at more =
    let front : take k l ≡ a = ap (take k) (is ∙ append_assoc a b c) ∙ take_at a (b ++ c) k at in
    let both : take j l ≡ a ++ b = ap (take j) is ∙ take_at (a ++ b) c j (length-append a b ∙ omega arith) in
    ap (λ xs. xs ++ b) front ∙ sym both

-- the positions of a cut come next in the lap, where the cut stays on one side of the lap's start
pub lap_more : (first extent position count : ℕ) → first ≤ extent → position + count ≤ extent → (position < first → position + count ≤ first)
    → take (place_in_lap first extent position) (lap_from first extent) ++ range_with_len position count
    ≡ take (place_in_lap first extent position + count) (lap_from first extent)
lap_more first extent position count within fits one_side = elim (place_cases first extent position) [
  | inl h ↦
      let at : place_in_lap first extent position ≡ extent - first + position = h.1 in
      let short : position + count ≤ first = one_side h.0 in
      let a : List ℕ = range_with_len first (extent - first) in
      let b : List ℕ = range_with_len 0 position in
      let c : List ℕ = range_with_len position count in
      let d : List ℕ = range_with_len (position + count) (first - position - count) in
      let low : range_with_len 0 first ≡ (b ++ c) ++ d =
      range_parts 0 (position + count) (first - position - count) first (position + count) (omega arith) (omega arith)
      ∙ ap (λ xs. xs ++ d) (range_parts 0 position count (position + count) position refl (omega arith)) in
      let is : lap_from first extent ≡ ((a ++ b) ++ c) ++ d =
      ap (λ xs. a ++ xs) low ∙ sym (append_assoc a (b ++ c) d) ∙ ap (λ xs. xs ++ d) (sym (append_assoc a b c)) in
      let count_a : length a ≡ extent - first = length-range_with_len first (extent - first) in
      let count_b : length b ≡ position = length-range_with_len 0 position in
      let count_c : length c ≡ count = length-range_with_len position count in
      front_more (a ++ b) c d (lap_from first extent) (place_in_lap first extent position) (place_in_lap first extent position + count) is
      (length-append a b ∙ omega arith) (omega arith)
  | inr h ↦
      let at : place_in_lap first extent position ≡ position - first = h.1 in
      let above : first ≤ position = h.0 in
      let a : List ℕ = range_with_len first (position - first) in
      let b : List ℕ = range_with_len position count in
      let c : List ℕ = range_with_len (position + count) (extent - position - count) in
      let d : List ℕ = range_with_len 0 first in
      let high : range_with_len first (extent - first) ≡ (a ++ b) ++ c =
      range_parts first (position - first + count) (extent - position - count) (extent - first) (position + count) (omega arith) (omega arith)
      ∙ ap (λ xs. xs ++ c) (range_parts first (position - first) count (position - first + count) position refl (omega arith)) in
      let is : lap_from first extent ≡ (a ++ b) ++ (c ++ d) =
      ap (λ xs. xs ++ d) high ∙ append_assoc (a ++ b) c d in
      let count_a : length a ≡ position - first = length-range_with_len first (position - first) in
      let count_b : length b ≡ count = length-range_with_len position count in
      front_more a b (c ++ d) (lap_from first extent) (place_in_lap first extent position) (place_in_lap first extent position + count) is
      (omega arith) (omega arith)
]
