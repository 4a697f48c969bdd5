use Rattle.pipeline_manager.proofs.UsedLemmas.{fits-used}
use Rattle.pipeline_manager.proofs.manager.Manager.some_run.Goals as goal

pub some_run-requires-clause-held : goal.some_run-requires-clause-held
some_run-requires-clause-held c =
    rw (c.in_front-in_use.ensures, c.as_slice.ensures)
    (fits-used c.self.inside.queries c.self.inside.used c.self.inside.slots c.self.invariant.1 c.self.invariant.0.held)
