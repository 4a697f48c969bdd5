-- The steps that a run makes: none, some and others behind them, a statement, a reply that is taken, and events of the driver.
use Rattle.script_run.proofs.Words.{◌++◌, ◌<◌, ◌∙◌, ◌∷◌, ◌≡◌, [], Abandon, after_step, after_steps, after_submitting, after_taking, All, All-append, All-cons, All-head, All-nil, All-tail, ap, AreIdle, aside-outcome, Bool, Done, Err, Event, fold-append, FrontParts, Halt, IsDriven, IsLed, IsOfRun, IsRun, IsSome, LeavesSeats, length, List, MayStep, MayStepAll, next_ready, NoMemory, None, outcome_of, refl, Replying, Result, ScanState, State, state_of, Statement, Step, Submit, subst, sym, tables_of, TookAll, Wanting}
use Rattle.core_state.specs.Events.{after_event}
use Rattle.event_core.specs.Took.{AreOf, IsEventOf, StepsFor}
use Rattle.core_driver.proofs.TakenLemmas.{driven-leaves}
use Rattle.std.proofs.lemmas.List.Elements.{filter_map-append}
use Rattle.std.specs.List.{cons_option}
use Rattle.star_io.specs.Link.{WritingSide}
use Rattle.script_run.specs.Front.{RunsOn, SubmitsAll, submitted_at, submitted_in}
use Rattle.script_run.proofs.RunLemmas.{counts-behind}

-- events that a core took are steps
abbrev pub TakenAreSteps : Type 0
TakenAreSteps = (events : List Event) (old new : State) → TookAll events old new → StepsFor events old new

-- no step
abbrev pub run-itself : (state : State) → IsRun state state
run-itself state = record { steps = []; may = tt; each = All-nil IsOfRun; is = refl }

-- one step
abbrev pub run-step : (step : Step) (old new : State) → MayStep old step → IsOfRun step → new ≡ after_step step old → IsRun old new
run-step step old new may of same = record {
  steps = step ∷ [];
  may = (may, tt);
  each = All-cons IsOfRun step [] of (All-nil IsOfRun);
  is = same;
}

-- steps that may come, and others behind them
pub may-append : (steps more : List Step) (state : State) → MayStepAll state steps → MayStepAll (after_steps steps state) more
    → MayStepAll state (steps ++ more)
may-append [] more state first second = second
may-append (step ∷ steps) more state first second = (first.0, may-append steps more (after_step step state) first.1 second)

-- steps of a run, and others behind them
abbrev pub run-then : (old between new : State) → IsRun old between → IsRun between new → IsRun old new
run-then old between new first second = record {
  steps = first.steps ++ second.steps;
  may = may-append first.steps second.steps old first.may (subst (λ state. MayStepAll state second.steps) first.is second.may);
  each = All-append IsOfRun first.steps second.steps first.each second.each;
  is = second.is ∙ ap (after_steps second.steps) first.is
      ∙ sym (fold-append (λ now step. after_step step now) old first.steps second.steps);
}

-- a statement that the front submits
pub run-submitted : (statement : Statement) (old new : State) → 0 < length old.seats → new ≡ after_submitting 0 statement old → IsRun old new
unfolding after_event
run-submitted statement old new there same = run-step (Done (Submit 0 statement)) old new there refl same

-- a reply that the front takes
pub run-taken : (old new : State) → IsSome (next_ready old 0) → new ≡ after_taking 0 old → IsRun old new
run-taken old new ready same = run-step (Replying 0) old new ready refl same

-- an event that leaves the seats is one of a run
event-run : (event : Event) → LeavesSeats event → IsOfRun (Done event)
event-run (Submit seat statement) leaves = absurd leaves
event-run (Abandon query) leaves = leaves
event-run other leaves = tt

-- so is a step of an event of the driver
step-run : (event : Event) (step : Step) → IsDriven event → IsEventOf event step → IsOfRun step
step-run event (Done other) driven of = event-run other (driven-leaves other (subst IsDriven (sym of) driven))
step-run event (Wanting other spoiled) driven of = tt
step-run event (Replying seat) driven of = absurd of

steps-run : (events : List Event) (steps : List Step) → All IsDriven events → AreOf events steps → All IsOfRun steps
steps-run [] [] driven of = All-nil IsOfRun
steps-run [] (step ∷ steps) driven of = absurd of
steps-run (event ∷ events) [] driven of = absurd of
steps-run (event ∷ events) (step ∷ steps) driven of =
    All-cons IsOfRun step steps (step-run event step (All-head IsDriven event events driven) of.0)
    (steps-run events steps (All-tail IsDriven event events driven) of.1)

-- events of the driver
pub run-driven : TakenAreSteps → (old new : State) → IsLed IsDriven old new → IsRun old new
run-driven taken old new led =
    let made = taken led.events old new led.took in
    record { steps = made.0; may = made.1.0; each = steps-run led.events made.0 led.each made.1.1.0; is = made.1.1.1 }

-- a statement leaves the scan
pub scan-submitted : (statement : Statement) (state : State) → (after_submitting 0 statement state).scan ≡ state.scan
scan-submitted statement state = (aside-outcome 0 (outcome_of (tables_of state) statement) state).scan

-- where the scan is as it was, no batch is in a hand if none was
pub idle-scan : (old new : State) → new.scan ≡ old.scan → AreIdle old → AreIdle new
idle-scan old new same idle = subst (λ (scan : ScanState). All (λ flight. flight.hand ≡ None) scan.flights) (sym same) idle

-- nor where the front submitted a statement
pub idle-submitted : (statement : Statement) (old new : State) → new ≡ after_submitting 0 statement old → AreIdle old → AreIdle new
idle-submitted statement old new same = idle-scan old new (ap (λ state. state.scan) same ∙ scan-submitted statement old)

-- Which statements are submitted.

-- none
pub submits-none : (state : State) → SubmitsAll [] state state
submits-none state = record { run = run-itself state; are = refl }

-- those of one part and of another behind it
pub submits-then : (statements others : List Statement) (old between new : State) → SubmitsAll statements old between → SubmitsAll others between new
    → SubmitsAll (statements ++ others) old new
submits-then statements others old between new first second = record {
  run = run-then old between new first.run second.run;
  are = filter_map-append submitted_at first.run.steps second.run.steps ∙ ap (λ list. list ++ submitted_in second.run.steps) first.are
      ∙ ap (λ list. statements ++ list) second.are;
}

-- one
pub submits-one : (statement : Statement) (old new : State) → 0 < length old.seats → new ≡ after_submitting 0 statement old
    → SubmitsAll (statement ∷ []) old new
unfolding after_event
submits-one statement old new there same = record { run = run-step (Done (Submit 0 statement)) old new there refl same; are = refl }

-- none by a reply that is taken
pub submits-taken : (old new : State) → IsSome (next_ready old 0) → new ≡ after_taking 0 old → SubmitsAll [] old new
submits-taken old new ready same = record { run = run-step (Replying 0) old new ready refl same; are = refl }

-- nor by an event of the driver
none-submitted : (event : Event) (step : Step) → IsDriven event → IsEventOf event step → submitted_at step ≡ None
none-submitted event (Done (Submit seat statement)) driven of =
    absurd (driven-leaves (Submit seat statement) (subst IsDriven (sym of) driven))
none-submitted event (Done other) driven of = refl
none-submitted event (Wanting other spoiled) driven of = refl
none-submitted event (Replying seat) driven of = absurd of

steps-submit : (events : List Event) (steps : List Step) → All IsDriven events → AreOf events steps → submitted_in steps ≡ []
steps-submit [] [] driven of = refl
steps-submit [] (step ∷ steps) driven of = absurd of
steps-submit (event ∷ events) [] driven of = absurd of
steps-submit (event ∷ events) (step ∷ steps) driven of =
    ap (λ first. cons_option first (submitted_in steps)) (none-submitted event step (All-head IsDriven event events driven) of.0)
    ∙ steps-submit events steps (All-tail IsDriven event events driven) of.1

pub submits-driven : TakenAreSteps → (old new : State) → IsLed IsDriven old new → SubmitsAll [] old new
submits-driven taken old new led =
    let made = taken led.events old new led.took in
    record {
      run = record { steps = made.0; may = made.1.0; each = steps-run led.events made.0 led.each made.1.1.0; is = made.1.1.1 };
      are = steps-submit led.events made.0 led.each made.1.1.0;
    }

-- a front that wrote nothing halts for want of memory
pub runs-wanting : (old new : FrontParts) (to : WritingSide) → IsRun (state_of old.core) (state_of new.core) → RunsOn (Err NoMemory) old new to to
runs-wanting old new to run = record { run = run; room = tt; faults = refl }

-- a front went on behind steps of a run, where no write failed before
pub runs-behind : (result : Result Bool Halt) (old mid new : FrontParts) (to0 to to' : WritingSide) → IsRun (state_of old.core) (state_of mid.core)
    → to.faults ≡ to0.faults → RunsOn result mid new to to' → RunsOn result old new to0 to'
runs-behind result old mid new to0 to to' run same runs = record {
  run = run-then (state_of old.core) (state_of mid.core) (state_of new.core) run runs.run;
  room = runs.room;
  faults = counts-behind result to0 to to' same runs.faults;
}
