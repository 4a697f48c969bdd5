use Rattle.std.proofs.Common.{rules}
use Rattle.std.specs.Ordering.{is_lt}
use Rattle.std.specs.Cmp.Lexicographic.{nat_list_cmp_total}
use Rattle.std.proofs.lemmas.List.MinMax.{ranks_by}
use Rattle.std.proofs.lemmas.List.Sorted.{answers_always}
use Rattle.star_plan.specs.declared.column_def.ColumnDef.{ColumnDef}
use Rattle.star_plan.specs.Names.{name_cmp}
use Rattle.star_plan.proofs.RepeatLemmas.{repeats-from_sorted_names}
use Rattle.star_plan.proofs.names.sorts_to_one_name.Goals as goal

pub returns : goal.returns
returns c =
    let sorted = c.sort_unstable_by.ensures.sorted (λ column other. is_lt (name_cmp column other))
    (ranks_by nat_list_cmp_total (λ (column : ColumnDef). column.name)) (answers_always _ _ _ (λ f a r q k. search rules)) in
    repeats-from_sorted_names c.args.columns.now c.sort_unstable_by.new.self c.sort_unstable_by.ensures.permutation sorted
    c.ascends_by_name.result c.ascends_by_name.ensures
