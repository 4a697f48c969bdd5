-- What the scan goes on by the events of the driver.
use Rattle.script_run.proofs.Words.{◌∷◌, ◌≡◌, ◌≤◌, [], Abandoned, All, All-cons, All-head, All-nil, All-tail, All-weaker, Answered, ap, arith, Bool, Building, count-cons, count_by, Entry, false, get_or, GoesRound, is_open, IsDriven, IsLed, IsOverOrWaits, IsSound, length, Life, List, one_if, QueryLife, refl, Spoiled, State, tables_by, true, versions_in}
use Rattle.pipeline_manager.specs.Conditions.{IsRunning}
use Rattle.pipeline_manager.specs.declared.life.Life.TheVariants.{Running, Ending}
use Rattle.core_driver.specs.Lap.{SharesLap, SomeRuns, is_unfinished, unfinished_in}
use Rattle.core_driver.proofs.LapCountLemmas.{count-le}
use Rattle.core_driver.proofs.LapQueryLemmas.{none-any}
use Rattle.core_driver.proofs.RiseLemmas.{counts-led}
use Rattle.core_driver.proofs.TakenLemmas.{frame-driven}
use Rattle.script_run.specs.Counted.{MayShareLap, open_in}

-- the same history has the same versions
pub keeps-versions : (old new : State) → new.entries ≡ old.entries → versions_in new ≡ versions_in old
keeps-versions old new same = ap (λ (entries : List Entry). length (tables_by entries).versions) same

-- a query that is unfinished is open
unfinished-open : (now : Life) → is_unfinished now ≡ true → is_open now ≡ true
unfinished-open Answered is = is
unfinished-open Spoiled is = is
unfinished-open Abandoned is = is
unfinished-open other is = refl

few-unfinished : (state : State) → unfinished_in state ≤ open_in state
few-unfinished state =
    count-le (λ (entry : QueryLife). is_unfinished entry.life) (λ (entry : QueryLife). is_open entry.life) state.lives.queries
    (λ k d low. unfinished-open (get_or state.lives.queries k d).life)

-- where each query is over or waits, none runs
waits-runs : (now : Life) → IsOverOrWaits now → IsRunning now → ⊥
waits-runs (Running start left) waits runs = waits
waits-runs other waits runs = runs

none-runs : (state : State) → All (λ entry. IsOverOrWaits entry.life) state.lives.queries → SomeRuns state → ⊥
none-runs state waits = none-any (λ (entry : QueryLife). IsRunning entry.life) state.lives.queries
    (All-weaker (λ (entry : QueryLife). IsOverOrWaits entry.life) (λ (entry : QueryLife). IsRunning entry.life → ⊥)
    (λ entry. waits-runs entry.life) state.lives.queries waits)

-- a lap of queries that waited, which are no more than the slots
pub goes-round : (old new : State) → IsSound old → MayShareLap old → IsLed IsDriven old new → SharesLap old new → GoesRound old new
goes-round old new sound may led lap =
    let frame = frame-driven old new led in
    let slots = sound.slots.count in
    let unfinished = few-unfinished old in record {
      settings = frame.settings;
      versions = keeps-versions old new frame.entries;
      none = λ none. absurd (let awaited = may.calm.awaited in let some = may.some in omega arith);
      once =
          let cut = counts-led lap.cut old new lap.led in
          let few = may.few in
          let once = lap.once (omega (arith, slots, unfinished, few)) (none-runs old may.calm.waits) in
          omega (arith, cut, once);
    }

-- a query that is not open is over
over-closed : (now : Life) → is_open now ≡ false → IsOverOrWaits now
over-closed Building closed = absurd (let apart : true ≡ false = closed in cc)
over-closed (Running start left) closed = absurd (let apart : true ≡ false = closed in cc)
over-closed Ending closed = absurd (let apart : true ≡ false = closed in cc)
over-closed other closed = tt

pub closed-over : (queries : List QueryLife) → All (λ entry. is_open entry.life ≡ false) queries → All (λ entry. IsOverOrWaits entry.life) queries
closed-over queries = All-weaker (λ (entry : QueryLife). is_open entry.life ≡ false) (λ (entry : QueryLife). IsOverOrWaits entry.life)
    (λ entry. over-closed entry.life) queries

-- none is counted that is closed, and where none is counted all are closed
pub closed-count : (queries : List QueryLife) → All (λ entry. is_open entry.life ≡ false) queries → count_by (λ entry. is_open entry.life) queries ≡ 0
closed-count [] closed = refl
closed-count (entry ∷ queries) closed =
    let rest = closed-count queries (All-tail (λ (e : QueryLife). is_open e.life ≡ false) entry queries closed) in
    let here : one_if (is_open entry.life) ≡ 0 = ap one_if (All-head (λ (e : QueryLife). is_open e.life ≡ false) entry queries closed) in
    let count = count-cons (λ (e : QueryLife). is_open e.life) entry queries in
    omega (arith, rest, here, count)

one-none : (test : Bool) → one_if test ≡ 0 → test ≡ false
one-none true none = absurd (let apart : 1 ≡ 0 = none in omega arith)
one-none false none = refl

pub count-closed : (queries : List QueryLife) → count_by (λ entry. is_open entry.life) queries ≡ 0 → All (λ entry. is_open entry.life ≡ false) queries
count-closed [] none = All-nil (λ (e : QueryLife). is_open e.life ≡ false)
count-closed (entry ∷ queries) none =
    let count = count-cons (λ (e : QueryLife). is_open e.life) entry queries in
    All-cons (λ (e : QueryLife). is_open e.life ≡ false) entry queries (one-none (is_open entry.life) (omega (arith, none, count)))
    (count-closed queries (omega (arith, none, count)))
