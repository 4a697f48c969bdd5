-- What a cut makes of the way of one query that runs.
use Rattle.core_driver.proofs.Words.{◌+◌, ◌-◌, ◌<◌, ◌≡◌, ◌≢◌, ◌≤◌, ◌⊎◌, arith, BeganAt, Bool, cond, covered, covered-same, cut-cases, cut_life, eqb, false, inl, inr, is_to_start, is_unfinished, IsLeft, IsLeftBetween, IsNext, IsRunning, Life, refl, true, ℕ}
use Rattle.std.proofs.Common.{min}
use Rattle.std.proofs.lemmas.Bool.{eqb-false}
use Rattle.pipeline_manager.specs.declared.life.Life.TheVariants as life
use Rattle.continuous_scan.specs.Lap.{lap_start, next_below, place_in_lap}
use Rattle.continuous_scan.proofs.LapLemmas.{next_cases, place_cases, start_cases}

-- where a lap began, stays
pub began-cut : (start positions : ℕ) (now : Life) → BeganAt start now → BeganAt start (cut_life positions now)
began-cut start =
    cut-cases (λ now later. BeganAt start now → BeganAt start later) (λ now h. h) (λ other left h. tt) (λ other left less h. h)

-- what is not to begin to run is not to after a cut
pub to-start-cut : (positions : ℕ) (now : Life) → is_to_start now ≡ false → is_to_start (cut_life positions now) ≡ false
to-start-cut =
    cut-cases (λ now later. is_to_start now ≡ false → is_to_start later ≡ false) (λ now h. h) (λ start left h. refl) (λ start left less h. refl)

-- what is unfinished after a cut was so
pub unfinished-cut : (positions : ℕ) (now : Life) → is_unfinished (cut_life positions now) ≡ true → is_unfinished now ≡ true
unfinished-cut =
    cut-cases (λ now later. is_unfinished later ≡ true → is_unfinished now ≡ true) (λ now h. h) (λ start left h. refl) (λ start left less h. refl)

-- what runs after a cut ran
pub runs-cut : (positions : ℕ) (now : Life) → IsRunning (cut_life positions now) → IsRunning now
runs-cut = cut-cases (λ now later. IsRunning later → IsRunning now) (λ now h. h) (λ start left h. tt) (λ start left less h. tt)

-- what is left behind a cut, in plain numbers
between-numbers : (first end stop extent left taken : ℕ) → taken ≡ min end extent - first → left - taken ≢ 0 → first < end → end ≤ stop
    → first + left ≤ min stop extent → end + (left - taken) ≤ min stop extent
between-numbers first end stop extent left taken is some after within between = omega arith

-- nothing is left behind an end
none-past : (end extent left : ℕ) → left ≢ 0 → end + left ≤ min end extent → ⊥
none-past end extent left some within = omega arith

-- what is left lies between where the cut ended and the end of the way
pub between-cut : (first end stop extent : ℕ) (now : Life) → first < end → end ≤ stop → IsLeftBetween first stop extent now
    → IsLeftBetween end stop extent (cut_life (covered first (end - 1) extent) now)
between-cut first end stop extent life.Waiting after within between = tt
between-cut first end stop extent life.Building after within between = tt
between-cut first end stop extent (life.Running start left) after within between = by_test (eqb (left - covered first (end - 1) extent) 0) refl
  where
    by_test : (t : Bool) → eqb (left - covered first (end - 1) extent) 0 ≡ t
        → IsLeftBetween end stop extent (cond {A = Life} t life.Ending (life.Running start (left - covered first (end - 1) extent)))
    by_test true is = tt
    by_test false is =
        between-numbers first end stop extent left (covered first (end - 1) extent) (covered-same first end extent after)
        (eqb-false (left - covered first (end - 1) extent) 0 is) after within between
between-cut first end stop extent life.Ending after within between = tt
between-cut first end stop extent life.Answered after within between = tt
between-cut first end stop extent life.Spoiled after within between = tt
between-cut first end stop extent life.Abandoned after within between = tt

-- where a cut ends at the end of the way, nothing that ran runs any more
pub between-none : (first end extent : ℕ) (now : Life) → first < end → IsLeftBetween first end extent now
    → IsRunning (cut_life (covered first (end - 1) extent) now) → ⊥
between-none first end extent life.Waiting after between runs = runs
between-none first end extent life.Building after between runs = runs
between-none first end extent (life.Running start left) after between runs =
    by_test (eqb (left - covered first (end - 1) extent) 0) refl runs
  where
    by_test : (t : Bool) → eqb (left - covered first (end - 1) extent) 0 ≡ t
        → IsRunning (cond {A = Life} t life.Ending (life.Running start (left - covered first (end - 1) extent))) → ⊥
    by_test true is runs = runs
    by_test false is runs =
        let rest = between-numbers first end end extent left (covered first (end - 1) extent) (covered-same first end extent after)
        (eqb-false (left - covered first (end - 1) extent) 0 is) after (omega arith) between in
        let some = eqb-false (left - covered first (end - 1) extent) 0 is in
        none-past end extent (left - covered first (end - 1) extent) some rest
between-none first end extent life.Ending after between runs = runs
between-none first end extent life.Answered after between runs = runs
between-none first end extent life.Spoiled after between runs = runs
between-none first end extent life.Abandoned after between runs = runs

-- a lap in plain numbers: where it begins, what comes next, how far that is, and what is left
begin-numbers : (extent start begin next place left : ℕ)
    → ((start < extent) × (begin ≡ start)) ⊎ ((extent ≤ start) × (begin ≡ 0))
    → next ≡ 0
    → ((next < begin) × (place ≡ extent - begin + next)) ⊎ ((begin ≤ next) × (place ≡ next - begin))
    → place + left ≡ extent → 0 < start → left ≤ min start extent
begin-numbers extent start begin next place left b n p total above = grind arith

-- behind the last version what is left of a lap lies before where it began
began-left : (versions extent start left : ℕ) → extent ≤ versions → IsNext versions extent (life.Running start left) → 0 < start
    → left ≤ min start extent
began-left versions extent start left within next above =
    begin-numbers extent start (lap_start start extent) (next_below versions extent)
    (place_in_lap (lap_start start extent) extent (next_below versions extent)) left
    (start_cases start extent)
    (elim (next_cases versions extent) [ inl h ↦ absurd (omega arith) | inr h ↦ h.1 ])
    (place_cases (lap_start start extent) extent (next_below versions extent))
    next above

-- where the scan came round, what is left lies between 0 and the end of the way
pub between-round : (versions end extent : ℕ) (now : Life) → extent ≤ versions → IsLeft extent now → IsNext versions extent now
    → (end ≡ versions) ⊎ ((0 < end) × BeganAt end now) → IsLeftBetween 0 end extent now
between-round versions end extent life.Waiting within left next is = tt
between-round versions end extent life.Building within left next is = tt
between-round versions end extent (life.Running start rest) within left next (inl is) = let most = left.1 in omega arith
between-round versions end extent (life.Running start rest) within left next (inr is) =
    let above = is.0 in
    let same = is.1 in
    let less = began-left versions extent start rest within next (omega arith) in
    omega arith
between-round versions end extent life.Ending within left next is = tt
between-round versions end extent life.Answered within left next is = tt
between-round versions end extent life.Spoiled within left next is = tt
between-round versions end extent life.Abandoned within left next is = tt
