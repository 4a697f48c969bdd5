-- No event of the kinds so far may come.
use Rattle.std.specs.List.{AllWithin}
use Rattle.core_driver.proofs.Words.{NoneMayCome, state_of}
use Rattle.core_driver.proofs.driver.next_of.Given as goal

abbrev pub invariant-loop-kind : goal.invariant-loop-kind
invariant-loop-kind l = AllWithin (λ kind. NoneMayCome kind (state_of l.core)) l.kinds 0 l.kind-index
