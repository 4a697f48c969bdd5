use Rattle.std.proofs.Common.{ltb, rules}
use Rattle.std.proofs.lemmas.List.Sorted.{IsPartitionPoint-from_clause, IsPartitionedBy-ltb}
use Rattle.std.proofs.lemmas.Bool.{ltb-true, ltb-false}
use Rattle.star_values.proofs.RisingLemmas.{rising_non_decreasing}
use Rattle.pipeline_manager.specs.declared.life.QueryLife.{QueryLife}
use Rattle.pipeline_manager.proofs.queries.first_from.Goals as goal

pub returns-clause-halves : goal.returns-clause-halves
returns-clause-halves c =
    let queries = c.args.queries.now in
    let point =
    IsPartitionPoint-from_clause (λ entry. ltb entry.query c.args.query) queries c.partition_point.result
    c.partition_point.ensures.partitioned
    (IsPartitionedBy-ltb (λ entry. entry.query) queries c.args.query (rising_non_decreasing (λ (entry : QueryLife). entry.query) queries c.requires))
    (λ a r q k. search rules) in
    (λ k d from below. ltb-true _ _ (point.0 k d from below), λ k d from below. ltb-false _ _ (point.1 k d from below))
