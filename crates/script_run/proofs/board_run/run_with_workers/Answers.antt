-- The front and the workers side by side, and the end of the board.
use Rattle.std.proofs.Common.{ap, arith, length, rules, subst, sym, ◌∙◌}
use Rattle.script_run.specs.BoardRun.{AreWorkers, IsLeader}
use Rattle.script_run.proofs.BoardCloseLemmas.{board-done}
use Rattle.script_run.proofs.BoardSeatLemmas.{leader-as, lent-whole}
use Rattle.script_run.proofs.SharedEndLemmas.{none-shared}
use Rattle.script_run.proofs.board_run.run_with_workers.Goals as goal

pub open_crew-requires-clause-settings : goal.open_crew-requires-clause-settings
open_crew-requires-clause-settings g c = c.requires.settings.within

pub open_crew-requires-clause-seats : goal.open_crew-requires-clause-seats
open_crew-requires-clause-seats g c = let seats = c.requires.settings.seats in omega arith

pub returns-in_default-clause-answers : goal.returns-in_default-clause-answers
returns-in_default-clause-answers g c = (none-shared _ _, tt)

pub end_board-core-requires-clause-leader : goal.end_board-core-requires-clause-leader
end_board-core-requires-clause-leader g c =
    leader-as c.in-Ok.crew.board c.args.settings.workers _ c.work_beside-end.new.front.3.now.seat _
    (ap length (lent-whole c.in-Ok.crew.workers.len c.in-Ok.crew.workers.items c.as_mut_slice.result.now c.work_beside-end.new.seats
    c.as_mut_slice.ensures.value c.work_beside-end.auto.seats c.in-Ok.crew.workers.ok.0)
    ∙ c.work_beside-end.auto.seats ∙ ap length c.as_mut_slice.ensures.value ∙ c.in-Ok.ensures.count)
    (search rules)
    (c.work_beside-end.ensures.front.met.1.0.leader c.args.settings.workers
    (subst (IsLeader c.in-Ok.crew.board c.args.settings.workers) (sym c.new-front.ensures.seat) c.in-Ok.ensures.leader))

pub end_board-core-requires-clause-workers : goal.end_board-core-requires-clause-workers
end_board-core-requires-clause-workers g c =
    subst (AreWorkers c.in-Ok.crew.board)
    (sym (lent-whole c.in-Ok.crew.workers.len c.in-Ok.crew.workers.items c.as_mut_slice.result.now c.work_beside-end.new.seats
    c.as_mut_slice.ensures.value c.work_beside-end.auto.seats c.in-Ok.crew.workers.ok.0))
    c.work_beside-end.ensures.workers

pub returns-clause-answers : goal.returns-clause-answers
returns-clause-answers g c =
    board-done c.unless_wanting.result c.end_board-core.result c.work_beside-end.result c.in-Ok.crew.board c.new-front.result.seat
    c.work_beside-end.new.front.3.now.seat _ _ _ _ _ _ _ (search rules) (search rules) (search rules)
    c.work_beside-end.ensures.front.met.1.0 c.end_board-core.ensures c.unless_wanting.ensures.own
