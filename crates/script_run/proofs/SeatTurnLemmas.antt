-- A turn of a seat that gives statements to a core: what it finds, what it does, and what it leaves.
use Rattle.script_run.proofs.Words.{◌++◌, ◌+◌, ◌<◌, ◌∙◌, ◌∷◌, ◌≡◌, ◌≢◌, [], after_submitting, after_taking, ap, append-nil, append_assoc, first_open, IfSome, IsRight, IsSound, length, List, Lives, next_ready, None, Pending, Ready, ready_of, refl, RunSettings, Seat, seat_at, slice_get, Some, State, state_of, Statement, Submit, subst, sym, Took, ℕ, ⊎_elim}
use Rattle.board_lock.specs.Seats.{IsOf, IsOutside, IsSameSeat, view_of}
use Rattle.board_lock.specs.Views.{Keeps, entered, left}
use Rattle.board_lock.specs.declared.seat.BoardLock.{BoardLock}
use Rattle.board_lock.specs.declared.seat.BoardSeat.{BoardSeat}
use Rattle.board_lock.specs.declared.view.View.{View}
use Rattle.core_state.specs.Events.{after_event}
use Rattle.core_state.specs.Found.{held_by}
use Rattle.core_state.specs.Fronts.{IsDue, Passes, SubmitsRow}
use Rattle.core_state.specs.Rows.{AbandonsRow, IsMindful, SeatRow, Sight, made_by, sight_of}
use Rattle.core_state.specs.Sent.{Given}
use Rattle.core_state.proofs.FrontLemmas.{goes-passes, goes-submits, goes-then}
use Rattle.core_state.proofs.MoverLemmas.{mindful-none, mindful-then}
use Rattle.core_state.proofs.RowLemmas.{submits-mindful, submits-row, takes-mindful}
use Rattle.event_core.specs.Board.{CoreRow, core_entries, core_row, core_settings, first_row}
use Rattle.event_core.specs.CoreParts.{CoreParts, LeavesLoans, loan_of}
use Rattle.worker_gate.specs.Hands.{HasDoneIf, HasNothing}
use Rattle.worker_gate.specs.Left.{LeavesAllLoans, MovesHand}
use Rattle.worker_gate.specs.Turns.{IsOutWith, IsReady, IsSeated, own_row, sight_in}
use Rattle.worker_gate.proofs.TurnLemmas.{FindsCore, hand-found, same-seat, same-then, seated-found, view-left}
use Rattle.script_run.specs.Home.{Leaves, LetsGo}
use Rattle.script_run.specs.SeatTurns.{KeepsHand, SitsStill, StaysOut, StaysReady, SendsOne, TakesNext, TellsAsked, TellsGiven}
use Rattle.script_run.specs.declared.seat_turn.ReplyTurn.{ReplyTurn}
use Rattle.script_run.specs.declared.seat_turn.ReplyTurn.TheVariants.{Got, Nothing, NotYet, Looked}
use Rattle.script_run.specs.declared.seat_turn.Given.{Given as HowGiven}
use Rattle.script_run.specs.declared.seat_turn.Given.TheVariants as given
use Rattle.script_run.proofs.OnLemmas.{due-none, passes-itself}
use Rattle.script_run.proofs.TakenLemmas.{RowTells, TakesReply, WaitsForOpen, idle-next, took-first}

-- Seats.

-- a seat stays what it is where nothing happens, and one part behind another
pub out-none : (board : BoardLock CoreParts) (IsHeld : CoreRow → Type 0) (seat : BoardSeat CoreParts) → IsOutWith board IsHeld seat
    → StaysOut board IsHeld seat seat
out-none board IsHeld seat out = record { out = out; same = same-seat seat; team = (refl, refl) }

pub out-then : (board : BoardLock CoreParts) (IsOther IsHeld : CoreRow → Type 0) (old between new : BoardSeat CoreParts)
    → StaysOut board IsOther old between → StaysOut board IsHeld between new → StaysOut board IsHeld old new
out-then board IsOther IsHeld old between new first second = record {
  out = second.out;
  same = same-then old between new first.same second.same;
  team = (second.team.0 ∙ first.team.0, second.team.1 ∙ first.team.1);
}

-- What stays.

-- a seat whose row is as it was sent and took nothing
pub stays-passes : (seat : ℕ) (old new : Sight) → new.row.made ≡ made_by seat new.seen → Passes old new → SitsStill seat old new
stays-passes seat old new made passes due waits = goes-passes seat old new due waits made passes

pub stays-none : (seat : ℕ) (sight : Sight) → SitsStill seat sight sight
stays-none seat sight due waits = goes-passes seat sight sight due waits waits.made (passes-itself sight)

pub stays-then : (seat : ℕ) (old between new : Sight) → SitsStill seat old between → SitsStill seat between new → SitsStill seat old new
stays-then seat old between new first second due waits =
    let before = first due waits in
    goes-then seat old between new due due due [] [] [] [] [] [] before (second due before.waits)

-- where nothing has changed
pub stays-same : (seat : ℕ) (old new : State) → new ≡ old → SitsStill seat (sight_of old seat) (sight_of new seat)
stays-same seat old new same =
    subst (λ state. SitsStill seat (sight_of old seat) (sight_of state seat)) (sym same) (stays-none seat (sight_of old seat))

-- where its hand alone has changed
pub stays-moved : (seat : ℕ) (old new : State) → MovesHand seat old new → SitsStill seat (sight_of old seat) (sight_of new seat)
stays-moved seat old new moves = stays-passes seat (sight_of old seat) (sight_of new seat) refl (record {
  submitted = ap (λ (row : SeatRow). row.submitted) moves.own;
  made = ap (λ (row : SeatRow). row.made) moves.own;
  pending = ap (λ (row : SeatRow). row.pending) moves.own;
  taken = ap (λ (row : SeatRow). row.taken) moves.own;
  since = [];
  seen = moves.entries ∙ sym (append-nil old.entries);
})

-- it still waits for something then
pub waits-moved : (seat : ℕ) (old new : State) → MovesHand seat old new → (seat_at old seat).pending ≢ [] → (seat_at new seat).pending ≢ []
waits-moved seat old new moves waits none = waits (sym (ap (λ (row : SeatRow). row.pending) moves.own) ∙ none)

-- and from what it knew to the core that it finds
pub stays-found : (view : View CoreParts) (found : CoreParts) → FindsCore view found
    → SitsStill view.number (sight_in view) (sight_of (state_of found) view.number)
stays-found view found finds = stays-passes view.number (sight_in view) (sight_of (state_of found) view.number) refl (record {
  submitted = ap (λ (row : CoreRow). row.row.submitted) finds.own;
  made = ap (λ (row : CoreRow). row.row.made) finds.own;
  pending = ap (λ (row : CoreRow). row.row.pending) finds.own;
  taken = ap (λ (row : CoreRow). row.row.taken) finds.own;
  since = finds.goes_on.0;
  seen = sym finds.goes_on.1;
})

-- What is told behind what stays.

pub submitted-behind : (statement : Statement) (seat : ℕ) (old between new : Sight) → SitsStill seat old between
    → SendsOne seat statement between new → SendsOne seat statement old new
submitted-behind statement seat old between new stays submitted due waits =
    let before = stays due waits in
    let sent = submitted due before.waits in (
      sent.0,
      sent.1,
      sent.2,
      goes-then seat old between new due due (due ++ sent.0 ∷ []) [] (sent.0 ∷ []) [] [] [] [] before sent.3,
    )

pub takes-behind : (ready : Ready) (seat : ℕ) (old between new : Sight) → SitsStill seat old between → TakesNext ready seat between new
    → TakesNext ready seat old new
takes-behind ready seat old between new stays takes due reply waits is =
    let before = stays due waits in
    let took = takes due reply before.waits is in record {
      first = took.first;
      rest = took.rest;
      goes = goes-then seat old between new due due took.rest [] [] [] (took.first ∷ []) [] (reply ∷ []) before took.goes;
    }

pub asked-behind : (asked : ReplyTurn) (seat : ℕ) (old between new : Sight) → SitsStill seat old between → TellsAsked asked seat between new
    → TellsAsked asked seat old new
asked-behind (Got ready) seat old between new stays tells = takes-behind ready seat old between new stays tells
asked-behind Nothing seat old between new stays tells = (stays-then seat old between new stays tells.0, tells.1)
asked-behind NotYet seat old between new stays tells = stays-then seat old between new stays tells
asked-behind (Looked look) seat old between new stays tells = (stays-then seat old between new stays tells.0, tells.1)

pub given-behind : (how : HowGiven) (statement : Statement) (seat : ℕ) (old between new : Sight) → SitsStill seat old between
    → TellsGiven how seat statement between new → TellsGiven how seat statement old new
given-behind given.Taken statement seat old between new stays tells = submitted-behind statement seat old between new stays tells
given-behind given.Lost statement seat old between new stays tells = stays-then seat old between new stays tells
given-behind given.Waits statement seat old between new stays tells = stays-then seat old between new stays tells

-- What is let go.

-- one part behind another
abbrev pub lets-then : (seat : ℕ) (old between new : Sight) → LetsGo seat old between → LetsGo seat between new → LetsGo seat old new
lets-then seat old between new first second = record {
  since = first.since ++ second.since;
  seen = second.seen ∙ ap (λ list. list ++ second.since) first.seen ∙ append_assoc old.seen first.since second.since;
  made = second.made ∙ first.made;
  all_made = second.all_made;
  submitted = second.submitted ∙ first.submitted;
  more = first.more ++ second.more;
  taken = second.taken ∙ ap (λ list. list ++ second.more) first.taken ∙ append_assoc old.row.taken first.more second.more;
}

-- where queries were abandoned
abbrev pub lets-abandoned : (seat : ℕ) (old new : State) → AbandonsRow (sight_of old seat) (sight_of new seat)
    → LetsGo seat (sight_of old seat) (sight_of new seat)
lets-abandoned seat old new abandons = record {
  since = [];
  seen = abandons.seen ∙ sym (append-nil old.entries);
  made = abandons.made;
  all_made = refl;
  submitted = abandons.submitted;
  more = [];
  taken = abandons.taken ∙ sym (append-nil (seat_at old seat).taken);
}

-- and from what the seat knew to the core that it finds
abbrev lets-found : (view : View CoreParts) (found : CoreParts) → FindsCore view found
    → LetsGo view.number (sight_in view) (sight_of (state_of found) view.number)
lets-found view found finds = record {
  since = finds.goes_on.0;
  seen = sym finds.goes_on.1;
  made = ap (λ (row : CoreRow). row.row.made) finds.own;
  all_made = refl;
  submitted = ap (λ (row : CoreRow). row.row.submitted) finds.own;
  more = [];
  taken = ap (λ (row : CoreRow). row.row.taken) finds.own ∙ sym (append-nil (sight_in view).row.taken);
}

-- A turn.

-- what a seat left is what it sees of it
pub sight-left : (old new : BoardSeat CoreParts) (core : CoreParts) → view_of new ≡ left (view_of old) core
    → sight_in (view_of new) ≡ sight_of (state_of core) (view_of old).number
sight-left old new core view = ap sight_in view

-- what it did to the core that it found it did to what it knew
pub turn-tells : (Tells : (seat : ℕ) → (old new : Sight) → Type 0)
    → ((seat : ℕ) (old between new : Sight) → SitsStill seat old between → Tells seat between new → Tells seat old new)
    → (old new : BoardSeat CoreParts) (found core : CoreParts) (seat : ℕ) → view_of new ≡ left (view_of old) core → FindsCore (view_of old) found
    → seat ≡ (view_of old).number → Tells seat (sight_of (state_of found) seat) (sight_of (state_of core) seat)
    → Tells (view_of old).number (sight_in (view_of old)) (sight_in (view_of new))
turn-tells Tells behind old new found core seat view finds is tells =
    behind (view_of old).number (sight_in (view_of old)) (sight_of (state_of found) (view_of old).number) (sight_in (view_of new))
    (stays-found (view_of old) found finds)
    (subst (Tells (view_of old).number (sight_of (state_of found) (view_of old).number)) (sym (sight-left old new core view))
    (subst (λ n. Tells n (sight_of (state_of found) n) (sight_of (state_of core) n)) is tells))

-- it let go what it waited for
pub turn-lets : (old new : BoardSeat CoreParts) (found core : CoreParts) (seat : ℕ) → view_of new ≡ left (view_of old) core
    → FindsCore (view_of old) found → seat ≡ (view_of old).number
    → LetsGo seat (sight_of (state_of found) seat) (sight_of (state_of core) seat)
    → LetsGo (view_of old).number (sight_in (view_of old)) (sight_in (view_of new))
turn-lets old new found core seat view finds is lets =
    subst (LetsGo (view_of old).number (sight_in (view_of old))) (sym (sight-left old new core view))
    (lets-then (view_of old).number (sight_in (view_of old)) (sight_of (state_of found) (view_of old).number)
    (sight_of (state_of core) (view_of old).number) (lets-found (view_of old) found finds)
    (subst (λ n. LetsGo n (sight_of (state_of found) n) (sight_of (state_of core) n)) is lets))

-- and took none of the replies
pub turn-leaves : (old new : BoardSeat CoreParts) (found core : CoreParts) (seat : ℕ) → view_of new ≡ left (view_of old) core
    → FindsCore (view_of old) found → seat ≡ (view_of old).number
    → AbandonsRow (sight_of (state_of found) seat) (sight_of (state_of core) seat)
    → Leaves (view_of old).number (sight_in (view_of old)) (sight_in (view_of new))
turn-leaves old new found core seat view finds is abandons =
    subst (Leaves (view_of old).number (sight_in (view_of old))) (sym (sight-left old new core view)) (
      lets-then (view_of old).number (sight_in (view_of old)) (sight_of (state_of found) (view_of old).number)
          (sight_of (state_of core) (view_of old).number) (lets-found (view_of old) found finds)
          (lets-abandoned (view_of old).number (state_of found) (state_of core)
          (subst (λ n. AbandonsRow (sight_of (state_of found) n) (sight_of (state_of core) n)) is abandons)),
      refl,
    )

-- it waits for nothing where nothing is pending in the core that it left
pub turn-due : (old new : BoardSeat CoreParts) (core : CoreParts) (seat : ℕ) → view_of new ≡ left (view_of old) core → seat ≡ (view_of old).number
    → (seat_at (state_of core) seat).pending ≡ [] → IsDue (view_of new).number (sight_in (view_of new)) []
turn-due old new core seat view is idle =
    subst (λ (v : View CoreParts). IsDue v.number (sight_in v) []) (sym view)
    (due-none (view_of old).number (state_of core) (subst (λ n. (seat_at (state_of core) n).pending ≡ []) is idle))

-- a core that a seat found may be put back by it where steps of that seat alone have changed it
abbrev pub KeepsBoard : Type 0
KeepsBoard = (view : View CoreParts) (found core : CoreParts) → view.last ≡ Some found → IsMindful view.number (state_of found) (state_of core)
    → LeavesLoans view.number found core → Keeps core_row first_row core_entries core_settings view core

pub turn-keeps : KeepsBoard → (old inside : View CoreParts) (found core : CoreParts) (seat : ℕ) → inside ≡ entered old found → seat ≡ old.number
    → IsMindful seat (state_of found) (state_of core) → LeavesLoans seat found core
    → Keeps core_row first_row core_entries core_settings inside core
turn-keeps keeps old inside found core seat enters is mindful loans =
    let number : seat ≡ inside.number = is ∙ sym (ap (λ (view : View CoreParts). view.number) enters) in
    keeps inside found core (ap (λ (view : View CoreParts). view.last) enters)
    (subst (λ n. IsMindful n (state_of found) (state_of core)) number mindful) (subst (λ n. LeavesLoans n found core) number loans)

pub turn-keeps-hand : KeepsBoard → (old inside : View CoreParts) (found core : CoreParts) (seat : ℕ) → inside ≡ entered old found → seat ≡ old.number
    → KeepsHand seat found core → Keeps core_row first_row core_entries core_settings inside core
turn-keeps-hand keeps old inside found core seat enters is kept =
    turn-keeps keeps old inside found core seat enters is kept.mindful (λ other apart. kept.loans other)

-- what is said of what it left is said of the seat
pub turn-out : (board : BoardLock CoreParts) (IsHeld : CoreRow → Type 0) (old new : BoardSeat CoreParts) (found core : CoreParts) (seat : ℕ)
    → view_of new ≡ left (view_of old) core → IsOf board new → IsOutside new → IsSeated (view_of old) → FindsCore (view_of old) found
    → IsMindful seat (state_of found) (state_of core) → seat ≡ (view_of old).number
    → IsHeld (core_row core seat) → IsOutWith board IsHeld new
turn-out board IsHeld old new found core seat view own outside seated finds mindful is held = record {
  own = own;
  outside = outside;
  seated = subst IsSeated (sym view)
      (subst (λ (settings : RunSettings). (view_of old).number < settings.seats) (sym mindful.settings)
      (seated-found (view_of old) found (view_of old).number seated finds refl));
  hand = subst (λ (v : View CoreParts). IsHeld (own_row v)) (sym view) (subst (λ n. IsHeld (core_row core n)) is held);
}

-- a seat that had nothing has nothing where its hand and what it is lent are as they were
pub nothing-stays : (seat : ℕ) (old new : CoreParts) → HasNothing (core_row old seat)
    → held_by (state_of new).scan.flights seat ≡ held_by (state_of old).scan.flights seat → loan_of new seat ≡ loan_of old seat
    → HasNothing (core_row new seat)
nothing-stays seat old new has hand loan = record { hand = hand ∙ has.hand; loan = loan ∙ has.loan }

-- a seat stays what it is in a turn of it
pub turn-stays : (board : BoardLock CoreParts) (IsOther IsHeld : CoreRow → Type 0) (old inside new : BoardSeat CoreParts) (found core : CoreParts)
    (seat : ℕ) → IsOutWith board IsOther old → view_of inside ≡ entered (view_of old) found → view_of new ≡ left (view_of inside) core
    → IsSameSeat old inside → IsSameSeat inside new → IsOutside new → FindsCore (view_of old) found
    → IsMindful seat (state_of found) (state_of core) → seat ≡ (view_of old).number → IsHeld (core_row core seat)
    → StaysOut board IsHeld old new
turn-stays board IsOther IsHeld old inside new found core seat ready enters leaves first second outside finds mindful is held =
    let view = view-left (view_of old) (view_of inside) (view_of new) found core enters leaves in record {
      out = turn-out board IsHeld old new found core seat view (second.0 ∙ first.0 ∙ ready.own) outside ready.seated finds mindful is held;
      same = same-then old inside new first second;
      team = (ap (λ (v : View CoreParts). v.made) view, ap (λ (v : View CoreParts). v.joined) view);
    }

-- and may take another one where it had nothing, and its hand and what it is lent are as they were
pub turn-stays-ready : (board : BoardLock CoreParts) (old inside new : BoardSeat CoreParts) (found core : CoreParts) (seat : ℕ)
    → IsReady board None old → view_of inside ≡ entered (view_of old) found → view_of new ≡ left (view_of inside) core
    → IsSameSeat old inside → IsSameSeat inside new → IsOutside new → FindsCore (view_of old) found
    → KeepsHand seat found core → seat ≡ (view_of old).number → StaysReady board old new
turn-stays-ready board old inside new found core seat ready enters leaves first second outside finds keeps is =
    turn-stays board (HasDoneIf None) (HasDoneIf None) old inside new found core seat ready enters leaves first second outside finds
    keeps.mindful is
    (nothing-stays seat found core (hand-found (HasDoneIf None) (view_of old) found seat ready.hand finds is) keeps.hand (keeps.loans seat))

-- where each has what it had, each but one has
pub loans-but : (seat : ℕ) (old new : CoreParts) → LeavesAllLoans old new → LeavesLoans seat old new
loans-but seat old new all other apart = all other

-- one part behind another
pub loans-then : (seat : ℕ) (old between new : CoreParts) → LeavesLoans seat old between → LeavesLoans seat between new
    → LeavesLoans seat old new
loans-then seat old between new first second other apart = second other apart ∙ first other apart

pub all-loans-then : (old between new : CoreParts) → LeavesAllLoans old between → LeavesAllLoans between new → LeavesAllLoans old new
all-loans-then old between new first second seat = second seat ∙ first seat

-- where nothing has changed
pub all-loans-same : (old new : CoreParts) → new ≡ old → LeavesAllLoans old new
all-loans-same old new same seat = ap (λ (parts : CoreParts). loan_of parts seat) same

-- a hand is kept where nothing has changed, one part behind another, and where the state and what is lent stays
pub keeps-same : (seat : ℕ) (old new : CoreParts) → new ≡ old → KeepsHand seat old new
keeps-same seat old new same = record {
  mindful = subst (IsMindful seat (state_of old)) (sym (ap state_of same)) (mindful-none seat (state_of old));
  hand = ap (λ (parts : CoreParts). held_by (state_of parts).scan.flights seat) same;
  loans = all-loans-same old new same;
}

pub keeps-then : (seat : ℕ) (old between new : CoreParts) → KeepsHand seat old between → KeepsHand seat between new → KeepsHand seat old new
keeps-then seat old between new first second = record {
  mindful = mindful-then seat (state_of old) (state_of between) (state_of new) first.mindful second.mindful;
  hand = second.hand ∙ first.hand;
  loans = all-loans-then old between new first.loans second.loans;
}

pub keeps-marked : (seat : ℕ) (old between new : CoreParts) → KeepsHand seat old between → state_of new ≡ state_of between
    → LeavesAllLoans between new → KeepsHand seat old new
keeps-marked seat old between new first same loans = record {
  mindful = subst (IsMindful seat (state_of old)) (sym same) first.mindful;
  hand = ap (λ (state : State). held_by state.scan.flights seat) same ∙ first.hand;
  loans = all-loans-then old between new first.loans loans;
}

-- What a seat does while it has the core.

-- a statement that was taken was submitted
pub after-submitted : (seat : ℕ) (statement : Statement) (old new : State) → Took (Submit seat statement) old new
    → new ≡ after_submitting seat statement old
unfolding after_event
after-submitted seat statement old new took = ⊎_elim (λ done. done) (λ spoilt. absurd spoilt) took.after

-- what its row is then
pub row-submitted : (seat : ℕ) (statement : Statement) (old new : State) → Took (Submit seat statement) old new
    → SubmitsRow seat (old.numbers.statement + 1) statement (sight_of old seat) (sight_of new seat)
row-submitted seat statement old new took =
    subst (λ state. SubmitsRow seat (old.numbers.statement + 1) statement (sight_of old seat) (sight_of state seat))
    (sym (after-submitted seat statement old new took)) (submits-row old seat statement took.enabled)

pub mindful-submitted : (seat : ℕ) (statement : Statement) (old new : State) → Took (Submit seat statement) old new → IsMindful seat old new
mindful-submitted seat statement old new took =
    subst (IsMindful seat old) (sym (after-submitted seat statement old new took)) (submits-mindful old seat statement)

pub submitted-took : (seat : ℕ) (statement : Statement) (old new : State) → Took (Submit seat statement) old new
    → SendsOne seat statement (sight_of old seat) (sight_of new seat)
submitted-took seat statement old new took due waits = (
  Given (old.numbers.statement + 1) (length old.entries) statement,
  refl,
  tt,
  goes-submits seat (sight_of old seat) (sight_of new seat) due (old.numbers.statement + 1) statement waits refl
      (row-submitted seat statement old new took),
)

-- a reply was taken: it is that to the first statement that the seat waited for
pub takes-next : RowTells → (seat : ℕ) (old new : State) (ready : Ready) → IsSound old → Some (ready_of ready) ≡ next_ready old seat
    → new ≡ after_taking seat old
    → IfSome (slice_get (seat_at old seat).pending 0) (λ pending. IsRight old pending.statement pending.awaited (ready_of ready))
    → TakesNext ready seat (sight_of old seat) (sight_of new seat)
takes-next tells seat old new ready sound may taken right due reply waits is =
    let takes : TakesReply seat old new ready reply = record { sound = sound; may = may; taken = taken; right = right; is = is } in
    let took = took-first tells seat old new ready reply takes due waits in
    record { first = took.first; rest = took.rest; goes = took.goes }

pub mindful-taken : (seat : ℕ) (old new : State) → new ≡ after_taking seat old → IsMindful seat old new
mindful-taken seat old new taken = subst (IsMindful seat old) (sym taken) (takes-mindful old seat)

-- its hand is as it was
pub hand-taken : (seat : ℕ) (old new : State) → new ≡ after_taking seat old
    → held_by new.scan.flights seat ≡ held_by old.scan.flights seat
hand-taken seat old new taken = ap (λ (state : State). held_by state.scan.flights seat) taken

-- where no reply may be taken, and no query may still be answered, a seat waits for nothing
pub asks-nothing : WaitsForOpen → (seat : ℕ) (state : State) → IsSound state → first_open state.lives (seat_at state seat) ≡ None
    → next_ready state seat ≡ None → TellsAsked Nothing seat (sight_of state seat) (sight_of state seat)
asks-nothing waits seat state sound none not_ready =
    (stays-none seat (sight_of state seat), idle-next waits state seat sound none not_ready)

-- a seat that waits for a query that may still be answered waits for something
pub open-waits : (lives : Lives) (seat : Seat) (query : ℕ) → Some query ≡ first_open lives seat → seat.pending ≢ []
open-waits lives seat query opens none =
    let both : Some query ≡ None = opens ∙ ap (λ (pending : List Pending). first_open lives (record seat { pending = pending })) none in cc
