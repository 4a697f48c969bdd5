use Rattle.std.proofs.Common.{ℕ, arith}
use Rattle.pipeline_manager.specs.Conditions.{CanRun}
use Rattle.pipeline_manager.proofs.SlotLemmas.{begun-building, none-at-all}
use Rattle.pipeline_manager.proofs.next_events.next_start.Goals as goal

pub returns-clause-none : goal.returns-clause-none
returns-clause-none c =
    λ none. none-at-all (λ (query : ℕ). CanRun query c.args.manager.now) c.args.manager.now
    c.used-slot-end.result c.used-slot-end.ensures.sound c.used-slot-end.ensures.free (λ query can. begun-building c.args.manager.now query can.building)
    (λ query slot within first. c.loop-slot.invariant slot (omega arith) query first)
