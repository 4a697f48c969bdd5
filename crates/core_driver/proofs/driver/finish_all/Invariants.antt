-- What was in flight landed, and turns followed so far.
use Rattle.core_driver.proofs.Words.{state_of, StaysIdle, work_in}
use Rattle.core_driver.proofs.FinishLemmas.{HasGone}
use Rattle.core_driver.proofs.driver.finish_all.Given as goal

abbrev pub invariant-turns : goal.invariant-turns
invariant-turns g l = HasGone (state_of l.fn.core) (state_of l.core) × StaysIdle l.fn.core l.core

abbrev pub decreases-turns : goal.decreases-turns
decreases-turns g l = work_in (state_of l.core)
