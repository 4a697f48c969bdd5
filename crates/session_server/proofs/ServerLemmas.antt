-- The seats of a server by which sessions are served.
use Rattle.std.proofs.Common.{◌≡◌, ℕ, ◌+◌, ◌<◌, List, [], ◌∷◌, ◌++◌, length, get_or, refl, sym, ap, subst, ◌∙◌, arith}
use mathlib.Core.Logic.{dite}
use native.Mathlib.Decide.{ℕ_discrete}
use Rattle.std.proofs.lemmas.List.{get_or_append_left, get_or_push, length_push}
use Rattle.std.proofs.lemmas.List.Elements.{All-nil}
use Rattle.core_state.specs.Fronts.{IsDue}
use Rattle.core_state.specs.Rows.{Sight}
use Rattle.core_state.specs.Sent.{IsGiven}
use Rattle.core_state.specs.declared.settings.RunSettings.{RunSettings}
use Rattle.board_lock.specs.Seats.{IsOf, IsOutside, view_of}
use Rattle.board_lock.specs.Views.{list_in, new_view, row_in}
use Rattle.board_lock.specs.declared.seat.BoardLock.{BoardLock}
use Rattle.board_lock.specs.declared.seat.BoardSeat.{BoardSeat}
use Rattle.board_lock.specs.declared.view.View.{View}
use Rattle.event_core.specs.Board.{core_entries, core_row, first_row}
use Rattle.event_core.specs.CoreParts.{CoreParts}
use Rattle.worker_gate.specs.Turns.{sight_in}
use Rattle.script_run.specs.BoardRun.{IsLeader, KnowsNew}
use Rattle.script_run.specs.Home.{IsAtRest}
use Rattle.script_run.specs.Shared.{nothing}
use Rattle.script_run.specs.declared.seat_front.SeatFront.{SeatFront}
use Rattle.script_run.proofs.BoardSeatLemmas.{leader-starts, seated-new, worker-made}
use Rattle.session_server.specs.Server.{AreAtRest}

-- A seat at rest.

-- a seat that sees nothing waits for nothing
nothing-due : (seat : ℕ) → IsDue seat nothing []
nothing-due seat = record { pending = refl; points = All-nil _; given = All-nil IsGiven; made = refl }

-- the first seat, where nothing was given to the core
pub leader-rests : (settings : RunSettings) (board : BoardLock CoreParts) (others : ℕ) (first : BoardSeat CoreParts) → IsLeader board others first
    → KnowsNew settings (view_of first) → 0 < settings.seats → IsAtRest board first
leader-rests settings board others first leader knows some = record {
  ready = (leader-starts settings board others first leader knows some).ready;
  due = subst (λ (sight : Sight). IsDue (view_of first).number sight []) (sym knows.sight) (nothing-due (view_of first).number);
}

-- one that the first seat made
pub seat-rests : (settings : RunSettings) (board : BoardLock CoreParts) (others : ℕ) (first seat : BoardSeat CoreParts) → IsLeader board others first
    → KnowsNew settings (view_of first) → others + 1 < settings.seats → IsOf board seat → IsOutside seat
    → view_of seat ≡ new_view (view_of first) → row_in core_row first_row (view_of seat).last (view_of seat).number ≡ first_row
    → IsAtRest board seat
seat-rests settings board others first seat leader knows few own outside is empty = record {
  ready = (worker-made board others first seat leader (seated-new settings (view_of first) (others + 1) knows few) own outside is empty).ready;
  due = subst (λ (sight : Sight). IsDue (view_of seat).number sight []) (sym sees) (nothing-due (view_of seat).number);
}
  where
    entries : list_in core_entries (view_of seat).seen ≡ []
    entries = ap (λ (view : View CoreParts). list_in core_entries view.seen) is ∙ ap (λ (sight : Sight). sight.seen) knows.sight

    sees : sight_in (view_of seat) ≡ nothing
    sees = λ i. record { row = (empty i).row; seen = entries i }

-- Fronts at rest.

-- one more of them
pub fronts-pushed : (board : BoardLock CoreParts) (fronts : List SeatFront) (front : SeatFront) → AreAtRest board fronts
    → IsAtRest board front.seat → AreAtRest board (fronts ++ front ∷ [])
fronts-pushed board fronts front rest rests place other low =
    let long = length_push fronts front in
    dite (ℕ_discrete place (length fronts))
    (λ here. subst (λ n. IsAtRest board (get_or (fronts ++ front ∷ []) n other).seat) (sym here)
    (subst (λ (last : SeatFront). IsAtRest board last.seat) (sym (get_or_push fronts front other (length fronts) refl)) rests))
    (λ apart. subst (λ (at : SeatFront). IsAtRest board at.seat)
    (sym (get_or_append_left fronts (front ∷ []) other place (omega arith)))
    (rest place other (omega arith)))
