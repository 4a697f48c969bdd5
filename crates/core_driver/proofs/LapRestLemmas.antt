-- The events of a round begin no query, and leave the table and how many slots there are.
use Rattle.core_driver.proofs.Words.{◌-◌, ◌∙◌, ◌≡◌, ◌≤◌, after_cutting, All-map, All-weaker, ap, arith, covered, Cut, cut_query, end_in, Event, false, first_in, is_to_start, is_unfinished, IsLed, IsOfLanding, IsOfRound, IsRunning, length, NoneIsToStart, refl, SomeRuns, State, subst, sym, tables_by, Took, unfinished_in, versions_in, ⊎_elim}
use Rattle.core_state.specs.Events.{after_event}
use Rattle.core_driver.proofs.LapCountLemmas.{count-map-le}
use Rattle.core_driver.proofs.LapEndsLemmas.{all-ends, count-ends, over-runs, over-start}
use Rattle.core_driver.proofs.LapLandingLemmas.{Lands, lands-taken}
use Rattle.core_driver.proofs.LapLifeLemmas.{runs-cut, to-start-cut, unfinished-cut}
use Rattle.core_driver.proofs.LapQueryLemmas.{all-none, none-any}
use Rattle.core_driver.proofs.LedLemmas.{led-holds}

-- an event of a round is a cut, or another
pub by-round : (P : Event → Type 0) → P Cut → ((event : Event) → IsOfLanding event → P event) → (event : Event) → IsOfRound event → P event
by-round P cuts lands Cut one = cuts
by-round P cuts lands event one = lands event one

-- a cut that was taken was done
pub cut-done : (old new : State) → Took Cut old new → new ≡ after_cutting old
unfolding after_event
cut-done old new took = ⊎_elim (λ done. done) (λ spoilt. absurd spoilt) took.after

-- what an event of a round leaves, and what it does not begin
pub record Rests (old new : State) : Type 0 where
  pub versions : versions_in new ≡ versions_in old
  pub slots : length new.lives.slots ≡ length old.lives.slots
  pub unfinished : unfinished_in new ≤ unfinished_in old
  pub start : NoneIsToStart old → NoneIsToStart new
  pub runs : (SomeRuns old → ⊥) → SomeRuns new → ⊥

-- no query runs where none did
pub runs-land : (old new : State) → Lands old new → (SomeRuns old → ⊥) → SomeRuns new → ⊥
runs-land old new lands none =
    none-any (λ entry. IsRunning entry.life) new.lives.queries
    (all-ends (λ entry. IsRunning entry.life → ⊥) (λ entry. over-runs entry.life) old.lives.queries new.lives.queries lands.ends
    (all-none (λ entry. IsRunning entry.life) old.lives.queries none))

-- an event other than a cut
pub rests-land : (old new : State) → Lands old new → Rests old new
rests-land old new lands = record {
  versions = ap (λ entries. length (tables_by entries).versions) lands.entries;
  slots = lands.slots;
  unfinished = count-ends old.lives.queries new.lives.queries lands.ends;
  start = all-ends (λ entry. is_to_start entry.life ≡ false) (λ entry. over-start entry.life) old.lives.queries new.lives.queries lands.ends;
  runs = runs-land old new lands;
}

-- a cut
rests-cut : (state : State) → Rests state (after_cutting state)
rests-cut state = record {
  versions = refl;
  slots = refl;
  unfinished = count-map-le (λ entry. is_unfinished entry.life) (cut_query (first_in state) (end_in state - 1))
      (λ entry. unfinished-cut (covered (first_in state) (end_in state - 1) entry.extent) entry.life) state.lives.queries;
  start = λ none. All-map (λ entry. is_to_start entry.life ≡ false) (cut_query (first_in state) (end_in state - 1)) state.lives.queries
      (All-weaker (λ entry. is_to_start entry.life ≡ false)
      (λ entry. is_to_start (cut_query (first_in state) (end_in state - 1) entry).life ≡ false)
      (λ entry. to-start-cut (covered (first_in state) (end_in state - 1) entry.extent) entry.life) state.lives.queries none);
  runs = λ none. none-any (λ entry. IsRunning entry.life) (after_cutting state).lives.queries
      (All-map (λ entry. IsRunning entry.life → ⊥) (cut_query (first_in state) (end_in state - 1)) state.lives.queries
      (All-weaker (λ entry. IsRunning entry.life → ⊥)
      (λ entry. IsRunning (cut_query (first_in state) (end_in state - 1) entry).life → ⊥)
      (λ entry before later. before (runs-cut (covered (first_in state) (end_in state - 1) entry.extent) entry.life later))
      state.lives.queries (all-none (λ entry. IsRunning entry.life) state.lives.queries none)));
}

-- one event after the other
rests-both : (old mid new : State) → Rests old mid → Rests mid new → Rests old new
rests-both old mid new first second = record {
  versions = second.versions ∙ first.versions;
  slots = second.slots ∙ first.slots;
  unfinished = let less = first.unfinished in let lesser = second.unfinished in omega arith;
  start = λ none. second.start (first.start none);
  runs = λ none. second.runs (first.runs none);
}

-- all is left of a core by itself
rests-same : (state : State) → Rests state state
rests-same state =
    record { versions = refl; slots = refl; unfinished = omega arith; start = λ none. none; runs = λ none. none }

-- an event of a round that was taken
rests-round : (event : Event) (old new : State) → IsOfRound event → Took event old new → Rests old new
rests-round event old new one =
    by-round (λ event. Took event old new → Rests old new)
    (λ took. subst (Rests old) (sym (cut-done old new took)) (rests-cut old))
    (λ other landing took. rests-land old new (lands-taken other old new landing took)) event one

-- a list of them
pub round-rests : (old new : State) → IsLed IsOfRound old new → Rests old new
round-rests old new led =
    led-holds IsOfRound (Rests old)
    (λ event before after one took first. rests-both old before after first (rests-round event before after one took))
    old new led (rests-same old)
