use Rattle.std.proofs.Common.{rules}
use Rattle.std.specs.Ordering.{is_lt}
use Rattle.std.proofs.lemmas.List.Sorted.{answers_always}
use Rattle.star_plan.proofs.repeat.ascends.Goals as goal

pub returns : goal.returns
returns g c =
    c.is_sorted_by.ensures.cases (λ member next. is_lt (g.T.Ord.cmp member next)) (answers_always _ _ _ (λ f a r q k. search rules))
