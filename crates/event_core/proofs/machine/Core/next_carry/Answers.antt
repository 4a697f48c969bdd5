use Rattle.event_core.proofs.Words.{◌∙◌, ap, CoreParts, refl, state_of}
use Rattle.event_core.proofs.ChoosingLemmas.{carry-offered, none-carried, none-carries, numbers-apart}
use Rattle.event_core.proofs.machine.Core.next_carry.Goals as goal

pub next_idle-requires : goal.next_idle-requires
next_idle-requires c =
    record { apart = numbers-apart _ c.as_slice.result.now c.self.invariant.0 c.as_slice.ensures }

pub returns-in_err-batch-clause-none : goal.returns-in_err-batch-clause-none
returns-in_err-batch-clause-none c = λ none.
    none-carried c.args.self.now c.as_slice.result.now
    (c.as_slice.ensures ∙ ap (λ (parts : CoreParts). parts.flights) c.self.view_is) (c.in_err-batch.ensures.none refl)

pub returns-in_err-worker-clause-none : goal.returns-in_err-worker-clause-none
returns-in_err-worker-clause-none c = λ none. none-carries (state_of c.args.self.now) (c.in_err-worker.ensures.none refl)

pub returns-clause-enabled : goal.returns-clause-enabled
returns-clause-enabled c =
    carry-offered c.args.self.now c.in_ok-worker.worker c.in_ok-batch.batch c.as_slice.result.now
    (c.as_slice.ensures ∙ ap (λ (parts : CoreParts). parts.flights) c.self.view_is) c.in_ok-worker.ensures.some c.in_ok-batch.ensures.some
