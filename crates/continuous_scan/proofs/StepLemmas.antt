-- Each query stays in step with the scan, whatever call is made.
use Rattle.std.proofs.Common.{◌≡◌, ℕ, ◌<◌, ◌≤◌, ◌+◌, ◌-◌, ◌⊎◌, inl, inr, min, ltb, List, ◌++◌, length, take, ap, sym, ◌∙◌, arith, subst, append-nil}
use Rattle.std.specs.List.{range_with_len}
use Rattle.std.proofs.lemmas.List.Elements.{filter-append}
use Rattle.continuous_scan.specs.Scanning.{Running}
use Rattle.continuous_scan.specs.Lap.{lap, lap_start, next_below, place_in_lap, IsInStep}
use Rattle.continuous_scan.specs.Range.{first_of, covered}
use Rattle.continuous_scan.specs.Calls.{below}
use Rattle.continuous_scan.proofs.LapLemmas.{start_cases, next_cases, first_cases, place_cases, lap_start_le, below-range, lap_more}

-- what is asked of a cut from `first` on, for a query that runs: the next position below its extent is the first of its
-- lap that is not yet cut, and the cut is within the table, and not past the lap's start
pub record CutsLap (position length first end extent start left : ℕ) : Type 0 where
  pub some : 1 ≤ left
  pub next : place_in_lap (lap_start start extent) extent (next_below position extent) + left ≡ extent
  pub extent_within : extent ≤ length
  pub position_within : position ≤ length
  pub first_is : first_of position length ≡ first
  pub after : first < end
  pub last : end ≤ length
  pub to_start : first < start → end ≤ start

-- the same of a query in a slot
abbrev pub CutsOne : (position length first end : ℕ) → Running → Type 0
CutsOne position length first end query = CutsLap position length first end query.extent query.start query.left

-- a scan that is to cut stands, as far as the extent goes, where the cut begins, or the cut is past the extent
cut_first : (position length first extent : ℕ) → first_of position length ≡ first → 1 ≤ extent → extent ≤ length → position ≤ length
    → ((first < extent) × (next_below position extent ≡ first)) ⊎ ((extent ≤ first) × (next_below position extent ≡ 0))
cut_first position length first extent is some within stands = elim (first_cases position length) [
  | inl h ↦ elim (next_cases position extent) [
    | inl g ↦ absurd (omega arith)
    | inr g ↦ inl (omega arith, omega arith)
  ]
  | inr h ↦ elim (next_cases position extent) [
    | inl g ↦ inl (omega arith, omega arith)
    | inr g ↦ inr (omega arith, g.1)
  ]
]

-- the same, in plain numbers: where the lap begins, what comes next, how far it is there and behind the cut
cut_numbers : (extent start begin next place left first end next_end place_end : ℕ)
    → ((start < extent) × (begin ≡ start)) ⊎ ((extent ≤ start) × (begin ≡ 0))
    → ((next < begin) × (place ≡ extent - begin + next)) ⊎ ((begin ≤ next) × (place ≡ next - begin))
    → ((first < extent) × (next ≡ first)) ⊎ ((extent ≤ first) × (next ≡ 0))
    → ((end < extent) × (next_end ≡ end)) ⊎ ((extent ≤ end) × (next_end ≡ 0))
    → ((next_end < begin) × (place_end ≡ extent - begin + next_end)) ⊎ ((begin ≤ next_end) × (place_end ≡ next_end - begin))
    → place + left ≡ extent → 1 ≤ left → first < end → (first < start → end ≤ start)
    → (min end extent - first ≤ left) × (1 ≤ left - (min end extent - first) → place_end + (left - (min end extent - first)) ≡ extent)
cut_numbers extent start begin next place left first end next_end place_end b p n m q total some after to_start =
    (grind arith, λ h. grind arith)

pub extent_some : (position : ℕ) (query : Running) → IsInStep position query → 1 ≤ query.extent
extent_some position query step = let some = step.some in let next = step.next in omega arith

-- a cut, and the lap of a query that runs
module _ (position length first end extent start left : ℕ) (cuts : CutsLap position length first end extent start left) where
  lap_some : 1 ≤ extent
  lap_some = let some = cuts.some in let next = cuts.next in omega arith

  -- where the scan stands, as far as the extent goes
  stands : ((first < extent) × (next_below position extent ≡ first)) ⊎ ((extent ≤ first) × (next_below position extent ≡ 0))
  stands = cut_first position length first extent cuts.first_is lap_some cuts.extent_within cuts.position_within

  cut_both : (covered first end extent ≤ left)
      × (1 ≤ left - covered first end extent
      → place_in_lap (lap_start start extent) extent (next_below end extent) + (left - covered first end extent) ≡ extent)
  cut_both =
      let t : ℕ = lap_start start extent in
      let n : ℕ = next_below position extent in
      let m : ℕ = next_below end extent in
      cut_numbers extent start t n (place_in_lap t extent n) left first end m (place_in_lap t extent m)
      (start_cases start extent) (place_cases t extent n) stands (next_cases end extent) (place_cases t extent m)
      cuts.next cuts.some cuts.after cuts.to_start

  -- a cut takes no more of the extent than is left
  pub cut_within : covered first end extent ≤ left
  cut_within = cut_both.0

  -- where something is left behind the cut, the next position is the first of the lap that is not yet cut
  pub cut_next : 1 ≤ left - covered first end extent
      → place_in_lap (lap_start start extent) extent (next_below end extent) + (left - covered first end extent) ≡ extent
  cut_next = cut_both.1

  -- the front of a lap, with the positions of a cut, is its longer front
  pub front_taken : take (extent - left) (lap start extent) ++ range_with_len first (covered first end extent)
      ≡ take (extent - (left - covered first end extent)) (lap start extent)
  front_taken = by_first stands
    where
      one_side : first < extent → first < lap_start start extent → first + covered first end extent ≤ lap_start start extent
      one_side within before = elim (start_cases start extent) [
        | inl s ↦ let short = cuts.to_start in let after = cuts.after in omega arith
        | inr s ↦ absurd (omega arith)
      ]

      by_first : ((first < extent) × (next_below position extent ≡ first)) ⊎ ((extent ≤ first) × (next_below position extent ≡ 0))
          → take (extent - left) (lap start extent) ++ range_with_len first (covered first end extent)
          ≡ take (extent - (left - covered first end extent)) (lap start extent)
      by_first (inl f) =
          let place : place_in_lap (lap_start start extent) extent first ≡ extent - left =
          let at = cuts.next in
          let same : place_in_lap (lap_start start extent) extent (next_below position extent) ≡ place_in_lap (lap_start start extent) extent first =
          ap (place_in_lap (lap_start start extent) extent) f.1 in
          omega arith in
          let fits = cut_within in
          let left_le : left ≤ extent = let at = cuts.next in omega arith in
          let more : extent - left + covered first end extent ≡ extent - (left - covered first end extent) = omega arith in
          ap (λ k. take k (lap start extent) ++ range_with_len first (covered first end extent)) (sym place)
          ∙ lap_more (lap_start start extent) extent first (covered first end extent) (lap_start_le start extent) (let past = f.0 in omega arith) (one_side f.0)
          ∙ ap (λ k. take k (lap start extent)) (ap (λ k. k + covered first end extent) place ∙ more)
      by_first (inr f) =
          let none : covered first end extent ≡ 0 = let past = f.0 in omega arith in
          let same : extent - left ≡ extent - (left - covered first end extent) = omega arith in
          ap (λ k. take (extent - left) (lap start extent) ++ range_with_len first k) none
          ∙ append-nil (take (extent - left) (lap start extent))
          ∙ ap (λ k. take k (lap start extent)) same

-- where something is left behind the cut, the query is in step there
pub step_on : (position length first end left : ℕ) (query : Running) → CutsOne position length first end query
    → query.left - covered first end query.extent ≡ left → 1 ≤ left → IsInStep end (record query { left = left })
step_on position length first end left query cuts is some = record {
  some = some;
  next =
      subst (λ k. place_in_lap (lap_start query.start query.extent) query.extent (next_below end query.extent) + k ≡ query.extent) is
      (cut_next position length first end query.extent query.start query.left cuts (omega arith));
}

-- what was cut of a lap, with a cut, is what was cut after it
pub step_taken : (position length first end : ℕ) (query : Running) (before : List ℕ) → CutsOne position length first end query
    → below query.extent before ≡ take (query.extent - query.left) (lap query.start query.extent)
    → below query.extent (before ++ range_with_len first (end - first))
    ≡ take (query.extent - (query.left - covered first end query.extent)) (lap query.start query.extent)
step_taken position length first end query before cuts was =
    filter-append (λ position. ltb position query.extent) before (range_with_len first (end - first))
    ∙ ap (λ xs. xs ++ below query.extent (range_with_len first (end - first))) was
    ∙ ap (λ xs. take (query.extent - query.left) (lap query.start query.extent) ++ xs) (below-range first end query.extent (let a = cuts.after in omega arith))
    ∙ front_taken position length first end query.extent query.start query.left cuts
