use Rattle.event_core.proofs.Words.{the_view}
use Rattle.event_core.proofs.EnablingLemmas.{cut-seen, uncut-seen}
use Rattle.event_core.proofs.machine.Core.may_cut.Goals as goal

pub returns-then-some_run : goal.returns-then-some_run
returns-then-some_run c =
    cut-seen (the_view c.self.inside) c.args.self.now c.free.result c.some_run.result c.self.view_is c.some_run.ensures.run
    c.if-some_run.true c.free.ensures.count

pub returns-else-some_run : goal.returns-else-some_run
returns-else-some_run c =
    uncut-seen (the_view c.self.inside) c.args.self.now c.some_run.result c.self.view_is c.some_run.ensures.run c.if-some_run.false
