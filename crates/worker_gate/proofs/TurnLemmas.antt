-- A turn of a worker: what its seat finds, and what it leaves.
use Rattle.std.proofs.Common.{◌≡◌, ℕ, ◌<◌, ◌++◌, [], Some, refl, sym, ap, ◌∙◌, subst, append-nil, append_assoc}
use Rattle.std.specs.Prelude.{IsSomeAnd}
use Rattle.core_state.specs.Fronts.{Passes}
use Rattle.core_state.specs.Rows.{SeatRow, Sight}
use Rattle.core_state.specs.declared.settings.RunSettings.{RunSettings}
use Rattle.board_lock.specs.Seats.{IsOf, IsOutside, IsSameSeat, view_of}
use Rattle.board_lock.specs.Views.{Finds, entered, left}
use Rattle.board_lock.specs.declared.seat.BoardLock.{BoardLock}
use Rattle.board_lock.specs.declared.seat.BoardSeat.{BoardSeat}
use Rattle.board_lock.specs.declared.view.View.{View}
use Rattle.event_core.specs.Board.{CoreRow, core_entries, core_row, core_settings, first_row}
use Rattle.event_core.specs.CoreParts.{CoreParts}
use Rattle.event_core.specs.Seen.{state_of}
use Rattle.worker_gate.specs.Left.{MovesHand}
use Rattle.worker_gate.specs.Turns.{IsOutWith, IsSeated, LooksLast, own_row, sight_in}
use Rattle.worker_gate.specs.declared.looking.Look.{Look}

-- the core is what the seat knew of it
abbrev pub FindsCore : View CoreParts → CoreParts → Type 0
FindsCore = Finds core_row first_row core_entries core_settings

-- What is found.

-- the seat is one of the core that it finds
pub seated-found : (view : View CoreParts) (found : CoreParts) (worker : ℕ) → IsSeated view → FindsCore view found → worker ≡ view.number
    → worker < (state_of found).settings.seats
seated-found view found worker seated finds is =
    subst (λ n. n < (state_of found).settings.seats) (sym is)
    (subst (λ o. IsSomeAnd o (λ (settings : RunSettings). view.number < settings.seats)) finds.settled seated)

-- what was in its hand is there, and what was lent beside it
pub hand-found : (IsHeld : CoreRow → Type 0) (view : View CoreParts) (found : CoreParts) (worker : ℕ) → IsHeld (own_row view)
    → FindsCore view found → worker ≡ view.number → IsHeld (core_row found worker)
hand-found IsHeld view found worker held finds is =
    subst (λ n. IsHeld (core_row found n)) (sym is) (subst IsHeld (sym finds.own) held)

-- What is left.

-- the seat is still one of the core
pub seated-left : (view : View CoreParts) (found core : CoreParts) (worker : ℕ) → IsSeated view → FindsCore view found
    → MovesHand worker (state_of found) (state_of core) → IsSeated (left view core)
seated-left view found core worker seated finds moves =
    subst (λ (settings : RunSettings). view.number < settings.seats) (sym moves.settings)
    (seated-found view found view.number seated finds refl)

-- nothing of its row has changed but for the hand, and entries of others came
pub passes-left : (view : View CoreParts) (found core : CoreParts) (worker : ℕ) → FindsCore view found
    → MovesHand worker (state_of found) (state_of core) → worker ≡ view.number → Passes (sight_in view) (sight_in (left view core))
passes-left view found core worker finds moves is = record {
  submitted = ap (λ (row : SeatRow). row.submitted) same;
  made = ap (λ (row : SeatRow). row.made) same;
  pending = ap (λ (row : SeatRow). row.pending) same;
  taken = ap (λ (row : SeatRow). row.taken) same;
  since = finds.goes_on.0;
  seen = moves.entries ∙ sym finds.goes_on.1;
}
  where
    moved : MovesHand view.number (state_of found) (state_of core)
    moved = subst (λ n. MovesHand n (state_of found) (state_of core)) is moves

    same : (core_row core view.number).row
        ≡ record (sight_in view).row { hand = (core_row core view.number).row.hand }
    same = moved.own ∙ ap (λ (row : CoreRow). record row.row { hand = (core_row core view.number).row.hand }) finds.own

-- a seat that took the core and left another
pub view-left : (old taken new : View CoreParts) (found core : CoreParts) → taken ≡ entered old found → new ≡ left taken core → new ≡ left old core
view-left old taken new found core enters leaves = leaves ∙ ap (λ (view : View CoreParts). left view core) enters

-- what is said of what it left is said of the seat
pub turn-out : (board : BoardLock CoreParts) (IsHeld : CoreRow → Type 0) (old new : BoardSeat CoreParts) (found core : CoreParts) (worker : ℕ)
    → view_of new ≡ left (view_of old) core → IsOf board new → IsOutside new → IsSeated (view_of old) → FindsCore (view_of old) found
    → MovesHand worker (state_of found) (state_of core) → worker ≡ (view_of old).number
    → IsHeld (core_row core worker) → IsOutWith board IsHeld new
turn-out board IsHeld old new found core worker view own outside seated finds moves is held = record {
  own = own;
  outside = outside;
  seated = subst IsSeated (sym view) (seated-left (view_of old) found core worker seated finds moves);
  hand = subst (λ (v : View CoreParts). IsHeld (own_row v)) (sym view) (subst (λ n. IsHeld (core_row core n)) is held);
}

pub turn-passes : (old new : BoardSeat CoreParts) (found core : CoreParts) (worker : ℕ) → view_of new ≡ left (view_of old) core
    → FindsCore (view_of old) found → MovesHand worker (state_of found) (state_of core) → worker ≡ (view_of old).number
    → Passes (sight_in (view_of old)) (sight_in (view_of new))
turn-passes old new found core worker view finds moves is =
    subst (λ (v : View CoreParts). Passes (sight_in (view_of old)) (sight_in v)) (sym view) (passes-left (view_of old) found core worker finds moves is)

pub turn-last : (found : Look) (old new : BoardSeat CoreParts) (core : CoreParts) → view_of new ≡ left (view_of old) core → LooksLast found (Some core)
    → LooksLast found (view_of new).last
turn-last found old new core view last = subst (λ (v : View CoreParts). LooksLast found v.last) (sym view) last

-- Seats.

-- one that is what another is
pub out-as : (IsHeld IsOther : CoreRow → Type 0) → ((row : CoreRow) → IsHeld row → IsOther row)
    → (board : BoardLock CoreParts) (seat : BoardSeat CoreParts) → IsOutWith board IsHeld seat → IsOutWith board IsOther seat
out-as IsHeld IsOther more board seat out =
    record { own = out.own; outside = out.outside; seated = out.seated; hand = more (own_row (view_of seat)) out.hand }

pub same-seat : (seat : BoardSeat CoreParts) → IsSameSeat seat seat
same-seat seat = (refl, refl, refl)

pub same-then : (old between new : BoardSeat CoreParts) → IsSameSeat old between → IsSameSeat between new → IsSameSeat old new
same-then old between new first second = (second.0 ∙ first.0, second.1 ∙ first.1, second.2 ∙ first.2)

-- Sights.

-- nothing happens
pub passes-none : (sight : Sight) → Passes sight sight
passes-none sight =
    record { submitted = refl; made = refl; pending = refl; taken = refl; since = []; seen = sym (append-nil sight.seen) }

-- one part behind another
pub passes-then : (old between new : Sight) → Passes old between → Passes between new → Passes old new
passes-then old between new first second = record {
  submitted = second.submitted ∙ first.submitted;
  made = second.made ∙ first.made;
  pending = second.pending ∙ first.pending;
  taken = second.taken ∙ first.taken;
  since = first.since ++ second.since;
  seen = second.seen ∙ ap (λ list. list ++ second.since) first.seen ∙ append_assoc old.seen first.since second.since;
}
