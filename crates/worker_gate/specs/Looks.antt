-- What a worker finds to do.
use Rattle.std.specs.Prelude.{◌≡◌, ◌<◌, ℕ, true, false, All, IsTrue, None}
use Rattle.core_state.specs.Events.{IsWanting}
use Rattle.core_state.specs.State.{State}
use Rattle.core_state.specs.declared.event.Event.TheVariants.{Carry, Cut}
use Rattle.event_core.specs.Board.{CoreRow, core_row}
use Rattle.event_core.specs.CoreParts.{CoreParts}
use Rattle.event_core.specs.Seen.{state_of}
use Rattle.event_core.specs.Took.{CutsAndCarries, Took}
use Rattle.event_core.specs.declared.choosing.EventKind.{EventKind}
use Rattle.event_core.specs.declared.choosing.EventKind.TheVariants as kind
use Rattle.event_core.specs.declared.work.BlankWork.{BlankWork}
use Rattle.event_core.specs.declared.work.Work.{Work}
use Rattle.worker_gate.specs.Hands.{HasNothing, HasWork}
use Rattle.worker_gate.specs.Managed.{IsFirstOf, ClearsNext, Manages, NoneIsLeft, managed_kinds}
use Rattle.worker_gate.specs.declared.carried.Carried.{Carried}
use Rattle.worker_gate.specs.declared.carried.Carried.TheVariants as carried
use Rattle.worker_gate.specs.declared.working.TakenWork.{TakenWork}
use Rattle.worker_gate.specs.declared.working.TakenWork.TheVariants as taken
use Rattle.worker_gate.specs.declared.looking.Look.{Look}
use Rattle.worker_gate.specs.declared.looking.Look.TheVariants as look

-- no idle batch has a bit left and a filter that it did not pass
abbrev pub NoneWants : State → Type 0
NoneWants state = All (λ flight. IsWanting state.filters flight → ⊥) state.scan.flights

-- a worker carries a batch through all filters that it did not pass, and has it as its work, with
-- what it was lent beside it: nothing to fold with while a statement waits for the tables
pub record TakesWork (work : Work) (worker : ℕ) (old new : CoreParts) : Type 0 where
  pub batch : ℕ
  pub took : Took (Carry worker batch) (state_of old) (state_of new)
  pub has : HasWork (carried.Written work) (core_row new worker)
  pub waits : IsTrue old.marks.waiting → work.folding ≡ None
  pub marks : new.marks ≡ old.marks

-- what `take_work` tells
abbrev pub TellsTaken : TakenWork → (worker : ℕ) → (old new : CoreParts) → Type 0
TellsTaken (taken.Got work) worker old new = TakesWork work worker old new
TellsTaken taken.Nothing worker old new = (new ≡ old) × NoneWants (state_of old)

-- a worker of the core whose hand is empty finds no batch that wants a filter
pub record IsToManage (worker : ℕ) (parts : CoreParts) : Type 0 where
  pub seat : worker < (state_of parts).settings.seats
  pub empty : HasNothing (core_row parts worker)
  pub wants : NoneWants (state_of parts)

-- there is nothing to do: no batch wants a filter, and no event is left to make
pub record IsIdle (state : State) : Type 0 where
  pub wants : NoneWants state
  pub left : NoneIsLeft state

-- no batch wants a filter, and a filter is to be cleared first
pub record IsStuck (state : State) : Type 0 where
  pub wants : NoneWants state
  pub clear : ClearsNext state

-- no batch wants a filter, and an event of this kind was made
pub record MakesEvent (of_kind : EventKind) (old new : CoreParts) : Type 0 where
  pub wants : NoneWants (state_of old)
  pub manages : Manages of_kind old new

-- no batch wants a filter, and the first event that may come cuts one: it was cut, and a worker
-- carries it as it is cut, which none does while a statement waits for the tables
pub record CutsFor (blank : BlankWork) (worker : ℕ) (old new : CoreParts) : Type 0 where
  pub wants : NoneWants (state_of old)
  pub first : IsFirstOf managed_kinds (state_of old) kind.Cut Cut
  pub took : CutsAndCarries worker (state_of old) (state_of new)
  pub has : HasWork (carried.Blank blank) (core_row new worker)
  pub waits : old.marks.waiting ≡ false
  pub marks : new.marks ≡ old.marks

-- how a worker came by what it carries: it took a batch, or cut one
abbrev pub TellsGot : Carried → (worker : ℕ) → (old new : CoreParts) → Type 0
TellsGot (carried.Written work) worker old new = TakesWork work worker old new
TellsGot (carried.Blank blank) worker old new = CutsFor blank worker old new

-- what `worker_look` tells: what the worker carries; that an event of a kind was made; that there
-- is nothing to do, where the core is not marked closing and where it is; and that there was no
-- memory to clear a filter
abbrev pub TellsLook : Look → (worker : ℕ) → (old new : CoreParts) → Type 0
TellsLook (look.Got work) worker old new = TellsGot work worker old new
TellsLook (look.Did of_kind) worker old new = MakesEvent of_kind old new
TellsLook look.Rest worker old new =
    (new ≡ old) × (IsIdle (state_of old) × (old.marks.closing ≡ false))
TellsLook look.Closed worker old new =
    (new ≡ old) × (IsIdle (state_of old) × (old.marks.closing ≡ true))
TellsLook look.Memory worker old new = (new ≡ old) × IsStuck (state_of old)

-- what is in a worker's hand behind a look: what it got, or nothing
abbrev pub HasLooked : Look → CoreRow → Type 0
HasLooked (look.Got work) row = HasWork work row
HasLooked other row = HasNothing row
