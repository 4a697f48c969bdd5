-- Which events a worker makes where no batch wants a filter and where one comes home, and what it
-- makes of a core by them.
use Rattle.std.specs.Prelude.{◌≡◌, ◌+◌, ◌%◌, ◌==◌, ◌&&◌, ℕ, Bool, true, false, if◌then◌else◌, is_some, List, [], ◌∷◌, All, slice_get, Option, Some, take}
use Rattle.core_state.specs.Events.{IsEnabled}
use Rattle.core_state.specs.State.{State}
use Rattle.core_state.specs.declared.event.Event.{Event}
use Rattle.core_state.specs.declared.event.Event.TheVariants.{Reorder}
use Rattle.event_core.specs.Chosen.{IsOfKind, NoneMayCome}
use Rattle.event_core.specs.CoreParts.{CoreParts}
use Rattle.event_core.specs.Seen.{state_of}
use Rattle.event_core.specs.Took.{CameHome, Took}
use Rattle.event_core.specs.declared.choosing.EventKind.{EventKind}
use Rattle.event_core.specs.declared.choosing.EventKind.TheVariants as kind
use Rattle.event_core.specs.declared.marks.Marks.{Marks}
use Rattle.event_core.specs.declared.work.Folding.{Folding}
use Rattle.worker_gate.specs.declared.managing.Managed.{Managed}
use Rattle.worker_gate.specs.declared.managing.Managed.TheVariants as managed

-- the kinds of these events, in the order in which they are asked for
abbrev pub managed_kinds : List EventKind
managed_kinds =
    kind.Distribute ∷ kind.Finish ∷ kind.Clear ∷ kind.Release ∷ kind.Reserve ∷ kind.Build
    ∷ kind.Start ∷ kind.Cut ∷ []

-- none of these events may come
abbrev pub NoneIsLeft : State → Type 0
NoneIsLeft state = All (λ each. NoneMayCome each state) managed_kinds

-- the event may come, and is of the first of some kinds of which one may
pub record IsFirstOf (kinds : List EventKind) (state : State) (of_kind : EventKind)
    (event : Event) : Type 0 where
  pub place : ℕ
  pub stands : slice_get kinds place ≡ Some of_kind
  pub is_of : IsOfKind of_kind event
  pub enabled : IsEnabled state event
  pub none_before : All (λ each. NoneMayCome each state) (take place kinds)

-- the marks behind an event of a kind: Distributes are counted, from 0 to 15 and round again
abbrev pub counted_by : EventKind → Marks → Marks
counted_by kind.Distribute marks = record marks { distributed = (marks.distributed + 1) % 16 }
counted_by other marks = marks

-- whether the filters are ordered behind an event of a kind: at each sixteenth Distribute
abbrev pub is_sixteenth : EventKind → Marks → Bool
is_sixteenth kind.Distribute marks = ((marks.distributed + 1) % 16) == 0
is_sixteenth other marks = false

-- the filters were ordered, or nothing was done
abbrev pub OrdersIf : Bool → (old new : State) → Type 0
OrdersIf true old new = Took Reorder old new
OrdersIf false old new = new ≡ old

-- the first of these events that may come was taken, which is one of this kind, and where it was
-- the sixteenth Distribute the filters were ordered behind it
pub record Manages (of_kind : EventKind) (old new : CoreParts) : Type 0 where
  pub event : Event
  pub between : State
  pub first : IsFirstOf managed_kinds (state_of old) of_kind event
  pub took : Took event (state_of old) between
  pub counted : new.marks ≡ counted_by of_kind old.marks
  pub orders : OrdersIf (is_sixteenth of_kind old.marks) between (state_of new)

-- the first of these events that may come clears a filter of a slot
pub record ClearsNext (state : State) : Type 0 where
  pub event : Event
  pub first : IsFirstOf managed_kinds state kind.Clear event

-- what `manage_one` tells: an event of a kind was made, none may come, or there was no
-- memory to clear a filter
abbrev pub TellsManaged : Managed → (old new : CoreParts) → Type 0
TellsManaged (managed.Did of_kind) old new = Manages of_kind old new
TellsManaged managed.Idle old new = (new ≡ old) × NoneIsLeft (state_of old)
TellsManaged managed.Memory old new = (new ≡ old) × ClearsNext (state_of old)

-- the marks behind a batch that came home: where it was folded outside its Distribute is counted
abbrev pub counted_home : (is_folded : Bool) → Marks → Marks
counted_home is_folded marks = if is_folded then counted_by kind.Distribute marks else marks

-- whether the filters are ordered behind it: where its Distribute is a sixteenth
abbrev pub is_sixteenth_home : (is_folded : Bool) → Marks → Bool
is_sixteenth_home is_folded marks = is_folded && is_sixteenth kind.Distribute marks

-- the batch of a worker came home, and if it was folded outside, it was distributed, too: this was
-- counted, and the filters were ordered after each sixteenth
pub record BringsHome (worker : ℕ) (folding : Option Folding) (old new : CoreParts) : Type 0 where
  pub between : State
  pub came : CameHome worker folding (state_of old) between
  pub counted : new.marks ≡ counted_home (is_some folding) old.marks
  pub orders : OrdersIf (is_sixteenth_home (is_some folding) old.marks) between (state_of new)
