use Rattle.std.proofs.Common.{◌≡◌, ℕ, List, Option, Ok, ap}
use Rattle.std.specs.Prelude.{Contains}
use Rattle.star_parser.specs.Condition.{Condition}
use Rattle.star_parser.specs.declared.ast.AstItem.{AstItem}
use Rattle.star_parser.specs.declared.tree.Column.{Column}
use Rattle.star_plan.specs.Answer.{answer_of}
use Rattle.star_plan.specs.Test.{Query}
use Rattle.star_binder.specs.Refused.{bound_select, from_tables}
use Rattle.star_binder.specs.Select.{select_of}
use Rattle.star_binder.specs.Where.{whole_where_holds}
use Rattle.query_meaning.specs.Alone.{joined, visible}
use Rattle.query_meaning.specs.Settled.{IsSettled}
use Rattle.query_meaning.specs.Store.{PlainVersion, Store}
use Rattle.star_store.proofs.JoinedLemmas.{kept-where, select-joined}
use Rattle.star_store.proofs.laws_of_queries.selects_are_answered_by_the_rows_where_their_where_holds.Goals as goal

pub returns : goal.returns
returns c =
    let one = c.one_row_joins_a_visible_version.ensures in
    let same = λ (store : Store) (items : List AstItem) (names : List (List ℕ)) (condition : Option Condition) (groups : List Column) (query : Query)
    (snapshot : ℕ) (version : PlainVersion) (settled : IsSettled store) (bound : bound_select store.schema (select_of items names condition groups) ≡ Ok query)
    (seen : Contains (visible store snapshot) version).
    c.bound_queries_keep_what_the_where_keeps.ensures.select store.schema items names condition groups query (joined store query snapshot version.row) bound
    (select-joined one store (select_of items names condition groups) query snapshot version settled bound seen) in record {
      joined = λ store items names condition groups query snapshot version.
          select-joined one store (select_of items names condition groups) query snapshot version;
      kept = same;
      answer = λ store items names condition groups query snapshot settled bound.
          ap (answer_of query) (kept-where store query snapshot (λ row. whole_where_holds (from_tables store.schema names) row condition)
          (λ version. same store items names condition groups query snapshot version settled bound));
    }
