use Rattle.pipeline_manager.specs.LetGo.{AreClosed}
use Rattle.pipeline_manager.proofs.queries.first_open.Given as goal

abbrev pub invariant-loop-place : goal.invariant-loop-place
invariant-loop-place l = AreClosed l.place l.queries
