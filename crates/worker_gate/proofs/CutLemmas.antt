-- A batch that is cut, and that a worker carries as it is cut.
use Rattle.std.proofs.Common.{◌≡◌, ℕ, Bool, true, false, Some, None, refl, ap, ◌∙◌, subst, arith}
use Rattle.std.specs.Prelude.{IsSomeAnd, IsTrue}
use Rattle.core_state.specs.Found.{held_by}
use Rattle.core_state.specs.Sound.{IsSound}
use Rattle.core_state.specs.State.{State}
use Rattle.core_state.specs.declared.event.Event.{Event}
use Rattle.core_state.specs.declared.event.Event.TheVariants.{Carry, Cut}
use Rattle.event_core.specs.Board.{core_row}
use Rattle.event_core.specs.Chosen.{kind_of}
use Rattle.event_core.specs.Lent.{HasFreeHand, IsBlankWorkOf}
use Rattle.event_core.specs.CoreParts.{CoreParts, loan_of}
use Rattle.event_core.specs.Seen.{state_of}
use Rattle.event_core.specs.Took.{CutsAndCarries, Took}
use Rattle.event_core.specs.declared.choosing.EventKind.{EventKind}
use Rattle.event_core.specs.declared.choosing.EventKind.TheVariants as kind
use Rattle.event_core.specs.declared.work.BlankWork.{BlankWork}
use Rattle.worker_gate.specs.Left.{LeavesRows, MovesHand}
use Rattle.worker_gate.specs.Looks.{CutsFor, IsToManage, MakesEvent}
use Rattle.worker_gate.specs.Managed.{IsFirstOf, managed_kinds}
use Rattle.worker_gate.specs.declared.carried.Carried.TheVariants as carried
use Rattle.worker_gate.proofs.HandLemmas.{holds-there}
use Rattle.worker_gate.proofs.LeftLemmas.{MovesOne, StepsKeep, leaves-kind, moves-none, moves-taken, moves-then, took-sound}
use Rattle.worker_gate.proofs.LookLemmas.{IsRight, has-work}

-- Before it is cut.

-- an event of that kind that comes first is a cut
pub first-cut : (state : State) (of_kind : EventKind) (event : Event) → of_kind ≡ kind.Cut → IsFirstOf managed_kinds state of_kind event
    → IsFirstOf managed_kinds state kind.Cut Cut
first-cut state of_kind Cut is first = subst (λ one. IsFirstOf managed_kinds state one Cut) is first
first-cut state of_kind other is first =
    absurd (let both : kind_of other ≡ kind.Cut = first.is_of ∙ is in cc)

-- a worker that is to make an event has a free hand
pub free-hand : (worker : ℕ) (core : CoreParts) → IsSound (state_of core) → IsToManage worker core → HasFreeHand worker (state_of core)
free-hand worker core sound manages =
    ((let low = manages.seat in let count = sound.seats.count in omega arith), manages.empty.hand)

-- It was cut for a worker.

-- a cut moves no row, and then the hand moves
pub moves-cut : MovesOne → StepsKeep → (worker : ℕ) (old new : State) → IsSound old → CutsAndCarries worker old new
    → MovesHand worker old new
moves-cut law keep worker old new sound cuts =
    moves-then worker old cuts.between new
    (moves-none worker old cuts.between (leaves-kind law Cut old cuts.between tt sound cuts.cut))
    (moves-taken law (Carry worker cuts.batch) cuts.between new worker tt (took-sound keep Cut old cuts.between cuts.cut sound)
    cuts.carried refl)

-- a call that carries nothing while a mark is set found it unset, where it carries something
unset : {X : Type 0} (carried : X) (mark : Bool) → (IsTrue mark → Some carried ≡ None) → mark ≡ false
unset carried true none = absurd (let never : Some carried ≡ None = none refl in cc)
unset carried false none = refl

-- the worker carries it
pub cuts-for : IsRight → (blank : BlankWork) (worker : ℕ) (old new : CoreParts) → IsToManage worker old
    → IsFirstOf managed_kinds (state_of old) kind.Cut Cut → CutsAndCarries worker (state_of old) (state_of new)
    → IsSomeAnd (held_by (state_of new).scan.flights worker)
    (λ flight. IsSomeAnd flight.hand (IsBlankWorkOf blank (loan_of new worker) flight))
    → (IsTrue old.marks.waiting → Some blank ≡ None) → new.marks ≡ old.marks → IsSound (state_of new) → CutsFor blank worker old new
cuts-for right blank worker old new manages first cuts is waiting marks sound = record {
  wants = manages.wants;
  first = first;
  took = cuts;
  has = has-work right (carried.Blank blank) worker new sound
      (holds-there (IsBlankWorkOf blank) (core_row new worker) (state_of new).scan.flights worker refl is);
  waits = unset blank old.marks.waiting waiting;
  marks = marks;
}

-- It was cut alone.

pub leaves-cut : MovesOne → (old new : State) → IsSound old → Took Cut old new → LeavesRows old new
leaves-cut law old new sound took = leaves-kind law Cut old new tt sound took

pub makes-cut : (worker : ℕ) (old new : CoreParts) → IsToManage worker old → IsFirstOf managed_kinds (state_of old) kind.Cut Cut
    → Took Cut (state_of old) (state_of new) → new.marks ≡ old.marks → MakesEvent kind.Cut old new
makes-cut worker old new manages first took marks = record {
  wants = manages.wants;
  manages = record {
    event = Cut;
    between = state_of new;
    first = first;
    took = took;
    counted = marks;
    orders = refl;
  };
}
