use Rattle.std.proofs.Common.{◌≡◌, take, map}
use Rattle.pipeline_manager.specs.LetGo.{cut_held}
use Rattle.pipeline_manager.proofs.queries.cut_holders.Given as goal

abbrev pub invariant-loop-state : goal.invariant-loop-state
invariant-loop-state l =
    l.queries ≡ map (cut_held l.first l.last (take l.state-index l.slots)) l.initial.queries
