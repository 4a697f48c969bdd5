-- What the seat told of the script stays told once it left what it waited for.
use Rattle.script_run.proofs.Words.{◌∙◌, ◌≡◌, None, subst, ℕ}
use Rattle.board_lock.specs.Seats.{view_of}
use Rattle.core_state.specs.Rows.{made_by}
use Rattle.worker_gate.specs.Hands.{HasDoneIf}
use Rattle.worker_gate.specs.Turns.{sight_in}
use Rattle.script_run.specs.Home.{Leaves}
use Rattle.script_run.proofs.SeatEndLemmas.{leaves-sent}
use Rattle.script_run.proofs.SeatFrontLemmas.{same-number}
use Rattle.script_run.proofs.SeatTurnLemmas.{out-then}
use Rattle.script_run.proofs.seat_front.SeatFront.run.Goals as goal

pub returns-clause-seat : goal.returns-clause-seat
returns-clause-seat g c =
    out-then c.args.board.now (HasDoneIf None) (HasDoneIf None) c.args.self.now.seat c.play_script-end.new.self.seat c.end_turn.new.seat
    c.play_script-end.ensures.seat c.end_turn.ensures.seat

pub returns-clause-answers : goal.returns-clause-answers
returns-clause-answers g c =
    let mid = view_of c.play_script-end.new.self.seat in
    let new = view_of c.end_turn.new.seat in
    let zero : mid.number ≡ 0 =
    same-number c.args.self.now.seat c.play_script-end.new.self.seat c.play_script-end.ensures.seat.same ∙ c.requires.first in
    leaves-sent c.play_script-end.result (sight_in mid) (sight_in new) _ _ _ _ c.play_script-end.ensures.due
    (subst (λ (seat : ℕ). Leaves seat (sight_in mid) (sight_in new)) zero c.end_turn.ensures.leaves) c.play_script-end.ensures.answers

pub returns-clause-made : goal.returns-clause-made
returns-clause-made g c =
    let mid = view_of c.play_script-end.new.self.seat in
    let new = view_of c.end_turn.new.seat in
    let zero : mid.number ≡ 0 =
    same-number c.args.self.now.seat c.play_script-end.new.self.seat c.play_script-end.ensures.seat.same ∙ c.requires.first in
    subst (λ (seat : ℕ). (sight_in new).row.made ≡ made_by seat (sight_in new).seen) zero c.end_turn.ensures.leaves.0.all_made
