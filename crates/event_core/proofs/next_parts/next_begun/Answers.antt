use Rattle.event_core.proofs.Words.{arith, CanSpoil, ℕ}
use Rattle.pipeline_manager.proofs.SlotLemmas.{none-at-all}
use Rattle.event_core.proofs.next_parts.next_begun.Goals as goal

pub returns-clause-none : goal.returns-clause-none
returns-clause-none c = λ none.
    none-at-all (λ (query : ℕ). CanSpoil query c.args.manager.now) c.args.manager.now c.used-slot-end.result
    c.used-slot-end.ensures.sound c.used-slot-end.ensures.free (λ query can. can)
    (λ query slot within first. c.loop-slot.invariant slot (omega arith) query first)
