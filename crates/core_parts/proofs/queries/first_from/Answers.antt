use Rattle.std.proofs.Common.{ltb, rules}
use Rattle.std.proofs.lemmas.List.Sorted.{IsPartitionPoint-from_clause, IsPartitionedBy-ltb}
use Rattle.std.proofs.lemmas.Bool.{ltb-true, ltb-false}
use Rattle.star_values.proofs.RisingLemmas.{rising_non_decreasing}
use Rattle.core_parts.proofs.AskedLemmas.{number_of, rising-entries}
use Rattle.core_parts.proofs.queries.first_from.Goals as goal

pub returns-clause-halves : goal.returns-clause-halves
returns-clause-halves c =
    let asked = c.args.asked.now in
    let point =
    IsPartitionPoint-from_clause (λ entry. ltb entry.asked.number c.args.number) asked c.partition_point.result
    c.partition_point.ensures.partitioned
    (IsPartitionedBy-ltb number_of asked c.args.number (rising_non_decreasing number_of asked (rising-entries asked c.requires)))
    (λ a r q k. search rules) in
    (λ k d from below. ltb-true _ _ (point.0 k d from below), λ k d from below. ltb-false _ _ (point.1 k d from below))
