use Rattle.pipeline_manager.specs.Inside.{UsesFirst}
use Rattle.pipeline_manager.proofs.slots.count_used.Given as goal

abbrev pub invariant-loop-count : goal.invariant-loop-count
invariant-loop-count l = UsesFirst l.count l.slots

abbrev pub decreases-loop-count : goal.decreases-loop-count
decreases-loop-count l = l.count
