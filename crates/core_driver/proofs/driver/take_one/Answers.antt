-- The event that was taken is of one of the kinds, so it leaves less work; one that was not may find no memory.
use Rattle.event_core.specs.Seen.{state_of}
use Rattle.event_core.proofs.ChoosingLemmas.{all-managed}
use Rattle.core_driver.proofs.Words.{ap}
use Rattle.core_driver.proofs.KindLemmas.{some-home}
use Rattle.core_driver.proofs.LoopLemmas.{work-of-some}
use Rattle.core_driver.proofs.WantLemmas.{wants-one}
use Rattle.core_driver.proofs.driver.take_one.Goals as goal

pub step-requires : goal.step-requires
step-requires c = record {
  home = some-home c.args.kinds.now c.in-Some.event _
      (all-managed c.args.kinds.now c.requires.managed) c.in-Some.ensures.kind;
}

pub returns-in-Ok-clause-less : goal.returns-in-Ok-clause-less
returns-in-Ok-clause-less c = λ is.
    work-of-some c.args.kinds.now c.in-Some.event (state_of c.args.core.now) (state_of c.step.new.self)
    (all-managed c.args.kinds.now c.requires.managed)
    c.every_core_is_sound.ensures c.in-Some.ensures.kind c.in-Ok.ensures.taken

pub returns-in-Err-clause-memory : goal.returns-in-Err-clause-memory
returns-in-Err-clause-memory c =
    wants-one c.step.result _ c.args.kinds.now c.in-Some.event (state_of c.args.core.now) (state_of c.step.new.self) c.in-Err.is
    (ap state_of c.in-Err.ensures.err) c.in-Some.ensures.kind c.in-Some.ensures.enabled c.step.ensures.disabled c.step.ensures.memory
