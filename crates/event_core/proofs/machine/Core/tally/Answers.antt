use Rattle.event_core.proofs.Words.{CoreParts, Has, subst, sym}
use Rattle.event_core.proofs.MachineLemmas.{has-version}
use Rattle.event_core.proofs.machine.Core.tally.Goals as goal

pub tally-requires : goal.tally-requires
tally-requires c =
    has-version _ c.args.dimension c.self.invariant.0
    (subst (λ (parts : CoreParts). Has parts.lives.filters c.args.dimension) (sym c.self.view_is) c.requires)
