use Rattle.std.proofs.Common.{◌≡◌, drop}
use Rattle.std.specs.List.{list_any}
use Rattle.pipeline_manager.specs.Inside.{holder_runs}
use Rattle.pipeline_manager.proofs.queries.some_holder_runs.Given as goal

abbrev pub invariant-loop-state : goal.invariant-loop-state
invariant-loop-state l =
    list_any (holder_runs l.queries) l.slots ≡ list_any (holder_runs l.queries) (drop l.state-index l.slots)
