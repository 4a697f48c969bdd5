use Rattle.std.proofs.Common.{rules}
use Rattle.std.specs.Ordering.{is_lt}
use Rattle.std.proofs.lemmas.List.Sorted.{answers_always}
use Rattle.star_plan.specs.Names.{name_cmp}
use Rattle.star_plan.proofs.names.ascends_by_name.Goals as goal

pub returns : goal.returns
returns c = c.is_sorted_by.ensures.cases (λ column next. is_lt (name_cmp column next)) (answers_always _ _ _ (λ f a r q k. search rules))
