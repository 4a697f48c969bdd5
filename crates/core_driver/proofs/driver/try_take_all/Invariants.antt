-- Events of the kinds were taken so far, and each left less work.
use Rattle.core_driver.proofs.Words.{IsLed, IsOfSome, state_of, StaysIdle, TookSome, work_in}
use Rattle.core_driver.proofs.driver.try_take_all.Given as goal

abbrev pub invariant-events : goal.invariant-events
invariant-events l = record {
  led : IsLed (IsOfSome l.kinds) (state_of l.fn.core) (state_of l.core);
  some : TookSome (state_of l.fn.core) (state_of l.core);
  stays : StaysIdle l.fn.core l.core;
}

abbrev pub decreases-events : goal.decreases-events
decreases-events l = work_in (state_of l.core)
