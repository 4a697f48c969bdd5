use Rattle.std.proofs.Common.{sym, subst}
use Rattle.pipeline_manager.specs.Conditions.{CanAbandon}
use Rattle.pipeline_manager.proofs.CallLemmas.{sound-after_abandon}
use Rattle.pipeline_manager.proofs.manager.Manager.abandon.Goals as goal

pub set_life-requires-clause-may : goal.set_life-requires-clause-may
set_life-requires-clause-may c = subst (CanAbandon c.args.query) (sym c.self.view_is) c.requires

pub invariant_of-self : goal.invariant_of-self
invariant_of-self c =
    rw c.set_life.ensures (
      sound-after_abandon c.args.query _ c.self.invariant.0,
      c.self.invariant.1,
    )
