use Rattle.pipeline_manager.proofs.UsedLemmas.{fits-used}
use Rattle.pipeline_manager.proofs.CallLemmas.{sound-after_cut}
use Rattle.pipeline_manager.proofs.manager.Manager.cut.Goals as goal

pub cut-requires-clause-held : goal.cut-requires-clause-held
cut-requires-clause-held c =
    rw (c.in_front-in_use.ensures, c.as_slice.ensures)
    (fits-used c.self.inside.queries c.self.inside.used c.self.inside.slots c.self.invariant.1 c.self.invariant.0.held)

pub invariant_of-self : goal.invariant_of-self
invariant_of-self c =
    rw c.cut.ensures (
      sound-after_cut c.args.first c.args.last _ c.self.invariant.0,
      c.self.invariant.1,
    )
