-- What events that were taken leave of what seats know.
use Rattle.std.proofs.Common.{◌≡◌, ℕ, ◌+◌, List, [], get_or, Option, refl, sym, ap, ◌∙◌, subst, arith, append-nil}
use Rattle.std.proofs.lemmas.List.Elements.{All-nil}
use Rattle.std.specs.Prelude.{IfSome}
use Rattle.core_state.specs.Events.{LeavesSeats}
use Rattle.core_state.specs.Found.{held_by}
use Rattle.core_state.specs.Movers.{IsOfSeat, mover_of_event}
use Rattle.core_state.specs.Rows.{IsMindful, SeatRow, made_by, row_of}
use Rattle.core_state.specs.Sound.{IsSound}
use Rattle.core_state.specs.State.{Entry, Flight, Seat, State}
use Rattle.core_state.specs.Steps.{Done, MayStep, Replying, Step, Wanting, after_step}
use Rattle.core_state.specs.Submitting.{empty_seat, seat_at}
use Rattle.core_state.specs.declared.event.Event.{Event}
use Rattle.core_state.specs.declared.event.Event.TheVariants.{Submit, Take, Carry, Give, Abandon}
use Rattle.core_state.proofs.WholeFrameLemmas.{Frame}
use Rattle.event_core.specs.Board.{CoreRow, core_row}
use Rattle.event_core.specs.Chosen.{IsManaged, kind_of}
use Rattle.event_core.specs.Lent.{IsAtHome}
use Rattle.event_core.specs.CoreParts.{CoreParts, LeavesLoans, Loan, loan_of}
use Rattle.event_core.specs.Seen.{state_of}
use Rattle.event_core.specs.Took.{IsEventOf, Took}
use Rattle.event_core.proofs.MadeLemmas.{makes-taken}
use Rattle.event_core.proofs.TakenStepLemmas.{StepFor, taken-step}
use Rattle.worker_gate.specs.Left.{LeavesAllLoans, LeavesRows, MovesHand}

-- Events of managed kinds.

-- an event of a managed kind leaves the seats
pub kind-leaves : (event : Event) → IsManaged (kind_of event) → LeavesSeats event
kind-leaves (Submit seat statement) managed = absurd managed
kind-leaves (Abandon query) managed = absurd managed
kind-leaves other managed = tt

-- it passes no batch and submits no statement
pub kind-home : (event : Event) (lent : List ℕ) → IsManaged (kind_of event) → IsAtHome event lent
kind-home (Give worker) lent managed = absurd managed
kind-home (Submit seat statement) lent managed = absurd managed
kind-home other lent managed = tt

-- and it is the step of every seat, since it moves no row
kind-moves : (event : Event) (state : State) (seat : ℕ) → IsManaged (kind_of event)
    → IfSome (mover_of_event state event) (λ mover. mover ≡ seat)
kind-moves (Submit mover statement) state seat managed = absurd managed
kind-moves (Take worker batch) state seat managed = absurd managed
kind-moves (Carry worker batch) state seat managed = absurd managed
kind-moves (Give worker) state seat managed = absurd managed
kind-moves (Abandon query) state seat managed = absurd managed
kind-moves other state seat managed = tt

-- Rows behind an event.

-- a step moves no row but that of its seat
abbrev pub MovesOne : Type 0
MovesOne = (step : Step) (state : State) (seat : ℕ) → MayStep state step → IsSound state → IsOfSeat seat state step
    → IsMindful seat state (after_step step state)

-- a step of an event is of the seat whose row the event may move
step-moves : (event : Event) (step : Step) (state : State) (seat : ℕ) → IsEventOf event step
    → IfSome (mover_of_event state event) (λ mover. mover ≡ seat) → IsOfSeat seat state step
step-moves event (Done other) state seat is moves =
    subst (λ one. IfSome (mover_of_event state one) (λ mover. mover ≡ seat)) (sym is) moves
step-moves event (Wanting other spoiled) state seat is moves = tt
step-moves event (Replying mover) state seat is moves = absurd is

-- an event that was taken moves no row but that of its seat
mindful-taken : MovesOne → (event : Event) (old new : State) (seat : ℕ) → IsSound old → Took event old new
    → IfSome (mover_of_event old event) (λ mover. mover ≡ seat) → IsMindful seat old new
mindful-taken law event old new seat sound took moves =
    let made : StepFor event old new = taken-step event old new took.enabled took.after in
    subst (IsMindful seat old) (sym made.after)
    (law made.step old seat made.may sound (step-moves event made.step old seat made.is_of moves))

-- a row by its parts
abbrev row_with : Seat → List ℕ → Option Flight → SeatRow
row_with seat made hand = record { submitted = seat.submitted; made = made; pending = seat.pending; taken = seat.taken; hand = hand }

-- a row is as it was but for the hand where the seats and the entries are
own-row : (old new : State) (seat : ℕ) → new.seats ≡ old.seats → new.entries ≡ old.entries
    → row_of new seat ≡ record (row_of old seat) { hand = (row_of new seat).hand }
own-row old new seat seats entries =
    ap (λ list. row_with (get_or list seat empty_seat) (made_by seat new.entries) (held_by new.scan.flights seat)) seats
    ∙ ap (λ list. row_with (seat_at old seat) (made_by seat list) (held_by new.scan.flights seat)) entries

-- a worker's event that leaves the seats moves its hand alone
pub moves-taken : MovesOne → (event : Event) (old new : State) (worker : ℕ) → LeavesSeats event → IsSound old → Took event old new
    → IfSome (mover_of_event old event) (λ mover. mover ≡ worker) → MovesHand worker old new
moves-taken law event old new worker leaves sound took moves =
    let frame : Frame old new = (makes-taken event old new leaves took).frame in
    record {
      others = (mindful-taken law event old new worker sound took moves).rows;
      own = own-row old new worker frame.seats frame.entries;
      entries = frame.entries;
      settings = frame.settings;
    }

-- an event that is of every seat moves no row
pub leaves-taken : MovesOne → (event : Event) (old new : State) → LeavesSeats event → IsSound old → Took event old new
    → ((seat : ℕ) → IfSome (mover_of_event old event) (λ mover. mover ≡ seat)) → LeavesRows old new
leaves-taken law event old new leaves sound took moves =
    let frame : Frame old new = (makes-taken event old new leaves took).frame in
    record {
      rows = λ seat. (mindful-taken law event old new (seat + 1) sound took (moves (seat + 1))).rows seat (λ same. omega arith);
      entries = frame.entries;
      settings = frame.settings;
    }

-- so does one of a managed kind
pub leaves-kind : MovesOne → (event : Event) (old new : State) → IsManaged (kind_of event) → IsSound old → Took event old new
    → LeavesRows old new
leaves-kind law event old new managed sound took =
    leaves-taken law event old new (kind-leaves event managed) sound took (λ seat. kind-moves event old seat managed)

-- it keeps a core sound
abbrev pub StepsKeep : Type 0
StepsKeep = (step : Step) (state : State) → MayStep state step → IsSound state → IsSound (after_step step state)

pub took-sound : StepsKeep → (event : Event) (old new : State) → Took event old new → IsSound old → IsSound new
took-sound keep event old new took sound =
    let made : StepFor event old new = taken-step event old new took.enabled took.after in
    subst IsSound (sym made.after) (keep made.step old made.may sound)

-- One behind another.

-- where nothing has changed
pub leaves-same : (old new : State) → new ≡ old → LeavesRows old new
leaves-same old new same = record {
  rows = λ seat. ap (λ (state : State). row_of state seat) same;
  entries = ap (λ (state : State). state.entries) same;
  settings = ap (λ (state : State). state.settings) same;
}

pub leaves-then : (old between new : State) → LeavesRows old between → LeavesRows between new → LeavesRows old new
leaves-then old between new first second = record {
  rows = λ seat. second.rows seat ∙ first.rows seat;
  entries = second.entries ∙ first.entries;
  settings = second.settings ∙ first.settings;
}

-- where no row has changed no hand has
pub moves-none : (worker : ℕ) (old new : State) → LeavesRows old new → MovesHand worker old new
moves-none worker old new leaves = record {
  others = λ other apart. leaves.rows other;
  own = subst (λ (row : SeatRow). row_of new worker ≡ record row { hand = (row_of new worker).hand }) (leaves.rows worker) refl;
  entries = leaves.entries;
  settings = leaves.settings;
}

pub moves-then : (worker : ℕ) (old between new : State) → MovesHand worker old between → MovesHand worker between new
    → MovesHand worker old new
moves-then worker old between new first second = record {
  others = λ other apart. second.others other apart ∙ first.others other apart;
  own = second.own ∙ ap (λ (row : SeatRow). record row { hand = (row_of new worker).hand }) first.own;
  entries = second.entries ∙ first.entries;
  settings = second.settings ∙ first.settings;
}

-- what moves a hand alone may be left to others
pub moves-mindful : (worker : ℕ) (old new : State) → MovesHand worker old new → IsMindful worker old new
moves-mindful worker old new moves = record {
  rows = moves.others;
  since = [];
  entries = moves.entries ∙ sym (append-nil old.entries);
  own = All-nil (λ (entry : Entry). entry.seat ≡ worker);
  settings = moves.settings;
}

-- What is lent beside batches.

-- where nothing has changed
pub loans-same : (old new : CoreParts) → new ≡ old → LeavesAllLoans old new
loans-same old new same seat = ap (λ (parts : CoreParts). loan_of parts seat) same

-- one behind another
pub loans-then : (old between new : CoreParts) → LeavesAllLoans old between → LeavesAllLoans between new → LeavesAllLoans old new
loans-then old between new first second seat = second seat ∙ first seat

-- what leaves all loans leaves those of others
pub others-all : (worker : ℕ) (old new : CoreParts) → LeavesAllLoans old new → LeavesLoans worker old new
others-all worker old new leaves other apart = leaves other

pub others-then : (worker : ℕ) (old between new : CoreParts) → LeavesLoans worker old between → LeavesLoans worker between new
    → LeavesLoans worker old new
others-then worker old between new first second other apart = second other apart ∙ first other apart

-- a row is what it was where its row and its loan are
pub row-still : (seat : ℕ) (old new : CoreParts) → row_of (state_of new) seat ≡ row_of (state_of old) seat → loan_of new seat ≡ loan_of old seat
    → core_row new seat ≡ core_row old seat
row-still seat old new row loan = ap (λ r. with_loan r (loan_of new seat)) row ∙ ap (with_loan (row_of (state_of old) seat)) loan
  where
    with_loan : SeatRow → Option Loan → CoreRow
    with_loan own lent = record { row = own; loan = lent }
