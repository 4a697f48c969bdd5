-- What is in the hand is there still when the work is done, and what was lent beside it.
use Rattle.std.proofs.Common.{◌∙◌, arith, subst, sym}
use Rattle.event_core.specs.Board.{core_row}
use Rattle.event_core.specs.Lent.{IsDoneFor}
use Rattle.worker_gate.specs.Hands.{HasDone, IsCarriedOf}
use Rattle.worker_gate.proofs.HandLemmas.{holds-weaker}
use Rattle.worker_gate.proofs.LeftLemmas.{row-still}
use Rattle.crate_tests.proofs.lent.do_behind.Goals as goal

pub do_work-done-requires : goal.do_work-done-requires
do_work-done-requires c = c.requires.fresh

pub give_work-requires : goal.give_work-requires
give_work-requires c =
    subst (HasDone c.do_work-done.result)
    (sym (row-still 1 c.args.core.now c.come-came.new.core (c.come-came.ensures.mindful.rows 1 (λ same. omega arith)) (c.come-came.ensures.loans 1)))
    (holds-weaker (IsCarriedOf c.args.carried) (IsDoneFor c.do_work-done.result) c.do_work-done.ensures (core_row c.args.core.now 1)
    c.requires.holds)

pub returns-clause-settings : goal.returns-clause-settings
returns-clause-settings c = c.give_work.ensures.moves.settings ∙ c.come-came.ensures.mindful.settings

pub returns-clause-empty : goal.returns-clause-empty
returns-clause-empty c = c.give_work.ensures.empty.hand
