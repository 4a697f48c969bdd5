use Rattle.std.proofs.Common.{rules}
use Rattle.std.specs.Ordering.{is_lt}
use Rattle.std.proofs.lemmas.List.Sorted.{answers_always, ranks_by}
use Rattle.star_values.specs.OrderLaws.{row_cmp-total}
use Rattle.star_values.specs.Value.{row_cmp}
use Rattle.aggregations.specs.declared.ordered.NumberedKey.{NumberedKey}
use Rattle.aggregations.proofs.ordered.sort.Goals as goal

pub returns-clause-sorted : goal.returns-clause-sorted
returns-clause-sorted c =
    c.in_ok-sort_by.ensures.sorted (λ (x y : NumberedKey). is_lt (row_cmp x.key y.key)) (ranks_by row_cmp-total (λ (e : NumberedKey). e.key))
    (answers_always _ _ _ (λ f a r q k. search rules))
