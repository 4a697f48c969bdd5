use Rattle.std.proofs.Common.{◌<◌, arith, below_more, refl}
use Rattle.pipeline_manager.specs.Conditions.{IsToClear}
use Rattle.pipeline_manager.proofs.SlotLemmas.{within-used}
use Rattle.pipeline_manager.proofs.next_events.next_clear.Goals as goal

pub loop-slot-preserved : goal.loop-slot-preserved
loop-slot-preserved c = below_more _ _ c.loop-slot.invariant (c.in_default.ensures.none refl)

pub returns-clause-none : goal.returns-clause-none
returns-clause-none c = λ none slot dimension can.
    let within : slot < c.used-slot-end.result = within-used (IsToClear dimension) c.args.manager.now c.used-slot-end.result slot c.used-slot-end.ensures.free (λ never. never) can in
    c.loop-slot.invariant slot (omega arith) dimension can
