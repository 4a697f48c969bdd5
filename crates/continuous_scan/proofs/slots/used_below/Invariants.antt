use Rattle.continuous_scan.specs.Inside.{RunBelow}
use Rattle.continuous_scan.proofs.slots.used_below.Given as goal

abbrev pub invariant-loop-used : goal.invariant-loop-used
invariant-loop-used l = RunBelow l.used l.running

abbrev pub decreases-loop-used : goal.decreases-loop-used
decreases-loop-used l = l.used
