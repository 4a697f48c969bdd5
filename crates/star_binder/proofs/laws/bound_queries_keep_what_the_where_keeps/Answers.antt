use Rattle.star_binder.proofs.WhereLemmas.{delete_where-law, where-law}
use Rattle.star_binder.proofs.laws.bound_queries_keep_what_the_where_keeps.Goals as goal

pub returns : goal.returns
returns c =
    let same = c.values_are_in_order.ensures.same in record {
      select = where-law same c.kept_rows_meet_each_condition.ensures.meets;
      delete = delete_where-law same;
    }
