use Rattle.pipeline_manager.specs.Inside.{NoneWaits}
use Rattle.pipeline_manager.proofs.queries.first_waiting.Given as goal

abbrev pub invariant-loop-place : goal.invariant-loop-place
invariant-loop-place l = NoneWaits l.place l.queries
