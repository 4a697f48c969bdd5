use Rattle.std.proofs.Common.{ℕ, arith, below_more, refl}
use Rattle.pipeline_manager.specs.Conditions.{CanBuild}
use Rattle.pipeline_manager.proofs.SlotLemmas.{begun-building, none-at-all}
use Rattle.pipeline_manager.proofs.next_events.next_build.Goals as goal

pub loop-slot-preserved : goal.loop-slot-preserved
loop-slot-preserved c = below_more _ _ c.loop-slot.invariant (c.in_default.ensures.none refl)

pub returns-clause-none : goal.returns-clause-none
returns-clause-none c =
    λ none query dimension. none-at-all (λ (query : ℕ). CanBuild query dimension c.args.manager.now) c.args.manager.now
    c.used-slot-end.result c.used-slot-end.ensures.sound c.used-slot-end.ensures.free (λ query can. begun-building c.args.manager.now query can.building)
    (λ query slot within first. c.loop-slot.invariant slot (omega arith) query dimension first) query
