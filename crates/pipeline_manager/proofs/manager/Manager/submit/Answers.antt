use Rattle.std.proofs.Common.{sym, subst}
use Rattle.pipeline_manager.specs.Conditions.{IsNew}
use Rattle.pipeline_manager.proofs.CallLemmas.{sound-after_submit}
use Rattle.pipeline_manager.proofs.manager.Manager.submit.Goals as goal

pub invariant_of-self-2 : goal.invariant_of-self-2
invariant_of-self-2 c =
    rw c.in_ok-push.ensures.ok (
      sound-after_submit c.args.query c.args.extent _ (subst (IsNew c.args.query) (sym c.self.view_is) c.requires) c.self.invariant.0,
      c.self.invariant.1,
    )
