use Rattle.std.proofs.Common.{◌<◌, arith}
use Rattle.pipeline_manager.specs.declared.life.SlotState.{SlotState}
use Rattle.pipeline_manager.specs.Conditions.{IsHolderOver}
use Rattle.pipeline_manager.proofs.SlotLemmas.{within-used}
use Rattle.core_parts.proofs.next_flights.next_finish.Goals as goal

pub returns-clause-none : goal.returns-clause-none
returns-clause-none c = λ none slot both.
    let within : slot < c.used-slot-end.result =
    within-used (λ (state : SlotState). IsHolderOver state c.args.manager.now) c.args.manager.now c.used-slot-end.result slot c.used-slot-end.ensures.free (λ never. never) both.0 in
    c.loop-slot.invariant slot (omega arith) both
