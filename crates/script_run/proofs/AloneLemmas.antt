-- A core that a run has by itself: every entry is of seat 0, and the queries are those that seat 0 was given.
use Rattle.script_run.proofs.Words.{◌++◌, ◌∙◌, ◌∷◌, ◌≡◌, ◌≢◌, ◌⊎◌, [], Abandon, Abandoned, accepted_by, after_step, after_steps, after_submitting, after_taking, All, All-append, All-head, All-nil, All-tail, ap, append-nil, append_assoc, Done, empty_core, empty_seat, Entry, Event, get_or, IsEnabled, IsOfRun, IsRun, IsSound, life_of, List, map, MayStep, MayStepAll, None, queries_among, refl, Replying, RunSettings, Seat, seat_at, Some, State, Step, Submit, subst, suc, sym, Wanting, zero, ℕ, ⊎_elim}
use Rattle.std.proofs.Common.{replicate}
use Rattle.core_state.specs.Events.{after_event}
use Rattle.core_state.specs.Queries.{given_in}
use Rattle.core_state.specs.Rows.{IsMindful, SeatRow}
use Rattle.core_state.proofs.RowLemmas.{submits-mindful, takes-mindful}
use Rattle.core_state.proofs.WholeFrameLemmas.{Frame, frame-all, frame-want, makes-done}
use Rattle.script_run.proofs.SharedScriptLemmas.{IsAlone}

-- where one seat alone submitted, and no query was abandoned, the queries of a sound core are those that the seat was given
abbrev pub QueriesOfRows : Type 0
QueriesOfRows = (state : State) (seat : ℕ) → IsSound state → ((other : ℕ) → other ≢ seat → (seat_at state other).submitted ≡ [])
    → ((query : ℕ) → life_of state.lives query ≢ Some Abandoned) → map accepted_by state.accepted ≡ queries_among (given_in (seat_at state seat))

-- no step but its own event abandons a query
abbrev pub OnlyAbandon : Type 0
OnlyAbandon = (step : Step) (state : State) (number : ℕ) → life_of (after_step step state).lives number ≡ Some Abandoned
    → (life_of state.lives number ≡ Some Abandoned) ⊎ (step ≡ Done (Abandon number))

-- steps keep a core sound
abbrev pub StaysSound : Type 0
StaysSound = (steps : List Step) (state : State) → MayStepAll state steps → IsSound state → IsSound (after_steps steps state)

-- no step of a run does
abandoned-before : OnlyAbandon → (steps : List Step) (state : State) (number : ℕ) → All IsOfRun steps
    → life_of (after_steps steps state).lives number ≡ Some Abandoned → life_of state.lives number ≡ Some Abandoned
abandoned-before only [] state number each is = is
abandoned-before only (step ∷ steps) state number each is = ⊎_elim (λ before. before)
    (λ own. absurd (let never : ⊥ = subst IsOfRun own (All-head IsOfRun step steps each) in never))
    (only step state number (abandoned-before only steps (after_step step state) number (All-tail IsOfRun step steps each) is))

-- What the steps of a run leave.

-- entries of seat 0 were added, and no other seat submitted anything
record AddsOwn (old new : State) : Type 0 where
  more : List Entry
  entries : new.entries ≡ old.entries ++ more
  own : All (λ entry. entry.seat ≡ 0) more
  others : (seat : ℕ) → seat ≢ 0 → (seat_at new seat).submitted ≡ (seat_at old seat).submitted

-- where the history and the seats are as they were
adds-frame : (old new : State) → Frame old new → AddsOwn old new
adds-frame old new frame = record {
  more = [];
  entries = frame.entries ∙ sym (append-nil old.entries);
  own = All-nil (λ (entry : Entry). entry.seat ≡ 0);
  others = λ seat apart. ap (λ seats. (get_or seats seat empty_seat).submitted) frame.seats;
}

-- and where no row has changed but that of seat 0
adds-mindful : (old new : State) → IsMindful 0 old new → AddsOwn old new
adds-mindful old new mindful = record {
  more = mindful.since;
  entries = mindful.entries;
  own = mindful.own;
  others = λ seat apart. ap (λ (row : SeatRow). row.submitted) (mindful.rows seat apart);
}

-- an event of a run
adds-event : (event : Event) (old : State) → IsEnabled old event → IsOfRun (Done event) → AddsOwn old (after_event event old)
unfolding after_event
adds-event (Submit seat statement) old may of =
    adds-mindful old (after_submitting seat statement old)
    (subst (λ number. IsMindful number old (after_submitting seat statement old)) of (submits-mindful old seat statement))
adds-event (Abandon query) old may of = absurd of
adds-event other old may of = adds-frame old _ (makes-done other old tt may).frame

-- a step of a run
adds-step : (step : Step) (old : State) → MayStep old step → IsOfRun step → AddsOwn old (after_step step old)
adds-step (Done event) old may of = adds-event event old may of
adds-step (Wanting event spoiled) old may of = adds-frame old _ (frame-want event spoiled old may.0 may.1)
adds-step (Replying seat) old may of =
    adds-mindful old (after_taking seat old)
    (subst (λ number. IsMindful number old (after_taking seat old)) of (takes-mindful old seat))

-- one behind the other
adds-then : (old between new : State) → AddsOwn old between → AddsOwn between new → AddsOwn old new
adds-then old between new first second = record {
  more = first.more ++ second.more;
  entries = second.entries ∙ ap (λ entries. entries ++ second.more) first.entries ∙ append_assoc old.entries first.more second.more;
  own = All-append (λ (entry : Entry). entry.seat ≡ 0) first.more second.more first.own second.own;
  others = λ seat apart. second.others seat apart ∙ first.others seat apart;
}

adds-steps : (steps : List Step) (old : State) → MayStepAll old steps → All IsOfRun steps → AddsOwn old (after_steps steps old)
adds-steps [] old may each = adds-frame old old (frame-all old)
adds-steps (step ∷ steps) old may each =
    adds-then old (after_step step old) (after_steps steps (after_step step old))
    (adds-step step old may.0 (All-head IsOfRun step steps each))
    (adds-steps steps (after_step step old) may.1 (All-tail IsOfRun step steps each))

-- A run from an empty core on.

-- every seat of an empty core is empty
pub new-seats : (settings : RunSettings) (seat : ℕ) → seat_at (empty_core settings) seat ≡ empty_seat
new-seats settings seat = by_count settings.seats seat
  where
    by_count : (n k : ℕ) → get_or (replicate n empty_seat) k empty_seat ≡ empty_seat
    by_count zero k = refl
    by_count (suc n) zero = refl
    by_count (suc n) (suc k) = by_count n k

-- whatever a run comes to from an empty core on
pub run-alone : QueriesOfRows → OnlyAbandon → StaysSound → (settings : RunSettings) (old new : State) → IsSound old → old ≡ empty_core settings
    → IsRun old new → IsAlone new
run-alone queries only stays settings old new sound empty run = record {
  own = subst (All (λ entry. entry.seat ≡ 0))
      (sym (ap (λ state. state.entries) run.is ∙ adds.entries ∙ ap (λ state. state.entries ++ adds.more) empty)) adds.own;
  queries = queries new 0 (subst IsSound (sym run.is) (stays run.steps old run.may sound))
      (λ other apart. ap (λ state. (seat_at state other).submitted) run.is ∙ adds.others other apart
      ∙ ap (λ state. (seat_at state other).submitted) empty ∙ ap (λ (seat : Seat). seat.submitted) (new-seats settings other))
      (λ query is. absurd (let none : None ≡ Some Abandoned = sym (ap (λ state. life_of state.lives query) empty)
      ∙ abandoned-before only run.steps old query run.each (ap (λ state. life_of state.lives query) (sym run.is) ∙ is) in cc));
}
  where
    adds : AddsOwn old (after_steps run.steps old)
    adds = adds-steps run.steps old run.may run.each
