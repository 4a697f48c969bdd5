-- Whom a seat wakes after its turn, as far as the core tells it. Who rests is known to the bell of
-- the board alone.
use Rattle.std.specs.Prelude.{◌≡◌, ℕ, Bool, true, All, IsTrue, None, if◌then◌else◌}
use Rattle.event_core.specs.CoreParts.{CoreParts}
use Rattle.event_core.specs.Seen.{state_of}
use Rattle.event_core.specs.declared.choosing.EventKind.{EventKind}
use Rattle.event_core.specs.declared.choosing.EventKind.TheVariants as kind
use Rattle.worker_gate.specs.Looks.{IsIdle}
use Rattle.worker_gate.specs.declared.looking.Look.{Look}
use Rattle.worker_gate.specs.declared.looking.Look.TheVariants as look
use Rattle.worker_gate.specs.declared.signal.Signal.{Signal}
use Rattle.worker_gate.specs.declared.signal.Signal.TheVariants as signal

-- what a statement waits for has come: no groups and tables are out
pub record HasComeHome (parts : CoreParts) : Type 0 where
  pub waiting : parts.marks.waiting ≡ true
  pub home : All (λ lending. lending ≡ None) parts.out

-- if somebody rests and something is left to do, one seat is woken, or all while a statement waits
-- for the tables, and else nobody
pub record WakesForMore (resting : Bool) (parts : CoreParts) (given : Signal) : Type 0 where
  pub more : IsTrue resting → (IsIdle (state_of parts) → ⊥) →
      given ≡ (if parts.marks.waiting then signal.All else signal.One)
  pub nobody : (IsTrue resting → IsIdle (state_of parts)) → given ≡ signal.Nobody

-- the same, whether or not somebody rests
abbrev pub WakesIfMore : CoreParts → Signal → Type 0
WakesIfMore parts given = (resting : Bool) × WakesForMore resting parts given

-- after a Finish, which may bring a reply, all are woken, and after other events nobody: the seat
-- that made the event looks again
abbrev pub signal_of : EventKind → Signal
signal_of kind.Finish = signal.All
signal_of other = signal.Nobody

-- whom a seat wakes after a look: as many as find something, if it goes on with a batch, all if
-- memory ran out, and nobody if it ends. If it found nothing to do, it rests
abbrev pub WakesAfter : Look → CoreParts → Signal → Type 0
WakesAfter (look.Got work) parts given = WakesIfMore parts given
WakesAfter (look.Did of_kind) parts given = given ≡ signal_of of_kind
WakesAfter look.Rest parts given = (seen : ℕ) × (given ≡ signal.Rest seen)
WakesAfter look.Closed parts given = given ≡ signal.Nobody
WakesAfter look.Memory parts given = given ≡ signal.All
