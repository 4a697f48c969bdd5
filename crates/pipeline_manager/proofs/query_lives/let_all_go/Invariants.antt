use Rattle.std.proofs.Common.{◌≡◌, ◌++◌, take}
use Rattle.pipeline_manager.proofs.query_lives.let_all_go.Given as goal

abbrev pub invariant-loop-entry : goal.invariant-loop-entry
invariant-loop-entry l =
    (l.gone.queries ≡ l.initial.gone.queries ++ take l.entry-index l.queries) × (l.gone.room ≡ l.initial.gone.room)
