use Rattle.std.proofs.Common.{take}
use Rattle.core_parts.specs.LetGo.{AreDone}
use Rattle.core_parts.proofs.queries.count_done.Given as goal

abbrev pub invariant-loop-place : goal.invariant-loop-place
invariant-loop-place l = AreDone l.manager (take l.place l.asked)
