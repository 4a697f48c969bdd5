use Rattle.std.proofs.Common.{◌∙◌}
use Rattle.star_plan.specs.Joined.{value_at}
use Rattle.query_meaning.specs.KeptTables.{rows_of_all}
use Rattle.query_meaning.specs.Keyed.{joined_by_keys}
use Rattle.query_meaning.specs.Read.{value_by_key}
use Rattle.aggregations.proofs.FoldLemmas.{folded_same}
use Rattle.aggregations.proofs.laws.values_by_key_fold_the_same.Goals as goal

pub returns : goal.returns
returns c =
    λ query dims version rows named.
    let row = joined_by_keys (rows_of_all dims) query version in
    let values = c.values_by_key_are_those_of_joined_rows.ensures in
    folded_same (value_by_key dims version) (λ place. value_at place row) query rows (values.key query dims version named) (values.items query dims version named)
    ∙ c.one_row_more_is_folded.ensures query rows row
