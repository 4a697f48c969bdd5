use Rattle.std.proofs.Common.{◌≡◌, ◌<◌, arith}
use Rattle.pipeline_manager.specs.declared.life.SlotState.{SlotState}
use Rattle.pipeline_manager.specs.declared.life.SlotState.TheVariants.{Clearing}
use Rattle.pipeline_manager.proofs.SlotLemmas.{within-used}
use Rattle.pipeline_manager.proofs.next_events.next_release.Goals as goal

pub returns-clause-none : goal.returns-clause-none
returns-clause-none c = λ none slot can.
    let within : slot < c.used-slot-end.result =
    within-used (λ (state : SlotState). state ≡ Clearing 0) c.args.manager.now c.used-slot-end.result slot c.used-slot-end.ensures.free (λ never. absurd (cc)) can in
    c.loop-slot.invariant slot (omega arith) can
