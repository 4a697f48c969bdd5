use Rattle.std.proofs.Common.{ltb, rules}
use Rattle.std.proofs.lemmas.List.Sorted.{IsPartitionPoint-from_clause, IsPartitionedBy-ltb}
use Rattle.std.proofs.lemmas.Bool.{ltb-true, ltb-false}
use Rattle.star_values.proofs.RisingLemmas.{rising_non_decreasing}
use Rattle.core_parts.specs.declared.submitted.Submitted.{Submitted}
use Rattle.core_parts.proofs.NumberLemmas.{rise}
use Rattle.core_parts.proofs.seat.first_from.Goals as goal

pub returns : goal.returns
returns c =
    let statements = c.args.statements.now in
    let point =
    IsPartitionPoint-from_clause (λ submitted. ltb submitted.number c.args.number) statements c.partition_point.result
    c.partition_point.ensures.partitioned
    (IsPartitionedBy-ltb (λ submitted. submitted.number) statements c.args.number (rising_non_decreasing (λ (submitted : Submitted). submitted.number) statements (rise statements c.requires)))
    (λ a r q k. search rules) in
    (λ k d from below. ltb-true _ _ (point.0 k d from below), λ k d from below. ltb-false _ _ (point.1 k d from below))
