-- The kinds of events, and what is known if no event of a kind may come.
use Rattle.std.specs.Prelude.{◌≡◌, ◌∷◌, [], All, List, None}
use Rattle.core_state.specs.declared.event.Event.{Event}
use Rattle.core_state.specs.declared.event.Event.TheVariants.{Submit, Reserve, Build, Start, Cut, Take, Carry, Give, Distribute, Finish, Clear, Release, Reorder, Abandon}
use Rattle.core_state.specs.Events.{IsEnabled}
use Rattle.core_state.specs.State.{State}
use Rattle.event_core.specs.declared.choosing.EventKind.{EventKind}
use Rattle.event_core.specs.declared.choosing.EventKind.TheVariants as kind

-- the kind of an event
abbrev pub kind_of : Event → EventKind
kind_of (Submit seat statement) = kind.Submit
kind_of (Reserve query slot) = kind.Reserve
kind_of (Build query dimension) = kind.Build
kind_of (Start query) = kind.Start
kind_of Cut = kind.Cut
kind_of (Take worker batch) = kind.Take
kind_of (Carry worker batch) = kind.Carry
kind_of (Give worker) = kind.Give
kind_of (Distribute batch) = kind.Distribute
kind_of (Finish slot) = kind.Finish
kind_of (Clear slot dimension) = kind.Clear
kind_of (Release slot) = kind.Release
kind_of Reorder = kind.Reorder
kind_of (Abandon query) = kind.Abandon

-- the event is of this kind
abbrev pub IsOfKind : EventKind → Event → Type 0
IsOfKind kind event = kind_of event ≡ kind

-- no event of this kind may come
abbrev pub NoneMayCome : EventKind → State → Type 0
NoneMayCome kind state = (event : Event) → IsOfKind kind event → IsEnabled state event → ⊥

-- an event of this kind admits a query, cuts or distributes a batch, or frees a slot: it is no
-- event of a seat, and less is left to do after it
abbrev pub IsManaged : EventKind → Type 0
IsManaged kind.Submit = ⊥
IsManaged kind.Take = ⊥
IsManaged kind.Carry = ⊥
IsManaged kind.Give = ⊥
IsManaged kind.Reorder = ⊥
IsManaged kind.Abandon = ⊥
IsManaged other = Unit {0}

-- so does an event of each of these kinds
abbrev pub AreManaged : List EventKind → Type 0
AreManaged [] = Unit {0}
AreManaged (kind ∷ kinds) = IsManaged kind × AreManaged kinds

-- no batch is in a hand
abbrev pub AreIdle : State → Type 0
AreIdle state = All (λ flight. flight.hand ≡ None) state.scan.flights

-- an event by which the front, which is seat 0, takes a batch or gives it back
abbrev pub IsPassing : Event → Type 0
IsPassing (Take worker batch) = worker ≡ 0
IsPassing (Give worker) = worker ≡ 0
IsPassing other = ⊥
