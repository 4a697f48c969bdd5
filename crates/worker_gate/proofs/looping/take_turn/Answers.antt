-- What the seat finds is what it knew, and what it leaves differs by the hand alone.
use Rattle.std.proofs.Common.{ap, subst, sym, ◌∙◌}
use Rattle.core_state.specs.Rows.{IsMindful}
use Rattle.board_lock.specs.Seats.{view_of}
use Rattle.board_lock.specs.declared.view.View.{View}
use Rattle.event_core.specs.CoreParts.{CoreParts, LeavesLoans}
use Rattle.event_core.specs.Seen.{state_of}
use Rattle.worker_gate.specs.Hands.{HasDoneIf}
use Rattle.worker_gate.specs.Looks.{HasLooked}
use Rattle.worker_gate.proofs.LeftLemmas.{moves-mindful}
use Rattle.worker_gate.proofs.TurnLemmas.{hand-found, same-then, seated-found, turn-last, turn-out, turn-passes, view-left}
use Rattle.worker_gate.proofs.looping.take_turn.Goals as goal

pub give_and_look-look-requires : goal.give_and_look-look-requires
give_and_look-look-requires g c = record {
  seat = seated-found (view_of c.args.seat.now) c.enter-core.result c.number-worker.result c.requires.seated c.enter-core.ensures.finds
      c.number-worker.ensures;
  hand = hand-found (HasDoneIf c.args.done) (view_of c.args.seat.now) c.enter-core.result c.number-worker.result c.requires.hand
      c.enter-core.ensures.finds c.number-worker.ensures;
}

pub leave-requires-clause-keeps : goal.leave-requires-clause-keeps
leave-requires-clause-keeps g c =
    c.own_steps_keep_a_board.ensures (view_of c.enter-core.new.seat) c.enter-core.result c.give_and_look-look.new.core
    (ap (λ (view : View CoreParts). view.last) c.enter-core.ensures.inside.1)
    (subst (λ n. IsMindful n (state_of c.enter-core.result) (state_of c.give_and_look-look.new.core))
    (c.number-worker.ensures ∙ sym (ap (λ (view : View CoreParts). view.number) c.enter-core.ensures.inside.1))
    (moves-mindful c.number-worker.result (state_of c.enter-core.result) (state_of c.give_and_look-look.new.core)
    c.give_and_look-look.ensures.moves))
    (subst (λ n. LeavesLoans n c.enter-core.result c.give_and_look-look.new.core)
    (c.number-worker.ensures ∙ sym (ap (λ (view : View CoreParts). view.number) c.enter-core.ensures.inside.1))
    c.give_and_look-look.ensures.others)

pub returns-clause-out : goal.returns-clause-out
returns-clause-out g c =
    turn-out c.args.board.now (HasLooked c.give_and_look-look.result) c.args.seat.now c.leave.new.seat c.enter-core.result
    c.give_and_look-look.new.core c.number-worker.result
    (view-left (view_of c.args.seat.now) (view_of c.enter-core.new.seat) (view_of c.leave.new.seat) c.enter-core.result
    c.give_and_look-look.new.core c.enter-core.ensures.inside.1 c.leave.ensures.outside.1)
    (c.leave.ensures.same.0 ∙ c.enter-core.ensures.same.0 ∙ c.requires.own) c.leave.ensures.outside.0 c.requires.seated
    c.enter-core.ensures.finds c.give_and_look-look.ensures.moves c.number-worker.ensures c.give_and_look-look.ensures.hand

pub returns-clause-same : goal.returns-clause-same
returns-clause-same g c =
    same-then c.args.seat.now c.enter-core.new.seat c.leave.new.seat c.enter-core.ensures.same c.leave.ensures.same

pub returns-clause-passes : goal.returns-clause-passes
returns-clause-passes g c =
    turn-passes c.args.seat.now c.leave.new.seat c.enter-core.result c.give_and_look-look.new.core c.number-worker.result
    (view-left (view_of c.args.seat.now) (view_of c.enter-core.new.seat) (view_of c.leave.new.seat) c.enter-core.result
    c.give_and_look-look.new.core c.enter-core.ensures.inside.1 c.leave.ensures.outside.1)
    c.enter-core.ensures.finds c.give_and_look-look.ensures.moves c.number-worker.ensures

pub returns-clause-last : goal.returns-clause-last
returns-clause-last g c =
    turn-last c.give_and_look-look.result c.args.seat.now c.leave.new.seat c.give_and_look-look.new.core
    (view-left (view_of c.args.seat.now) (view_of c.enter-core.new.seat) (view_of c.leave.new.seat) c.enter-core.result
    c.give_and_look-look.new.core c.enter-core.ensures.inside.1 c.leave.ensures.outside.1)
    c.give_and_look-look.ensures.last
