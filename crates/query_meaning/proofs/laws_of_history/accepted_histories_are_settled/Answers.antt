use Rattle.query_meaning.specs.Store.{empty_store}
use Rattle.std.proofs.Common.{refl}
use Rattle.query_meaning.proofs.SettledLemmas.{settled_after, settled_empty, settled_from}
use Rattle.query_meaning.proofs.laws_of_history.accepted_histories_are_settled.Goals as goal

pub returns-clause-all : goal.returns-clause-all
returns-clause-all c = λ history accepted.
    settled_from
    (record {
      dimension = c.accepted_tables_keep_a_schema_declared.ensures.dimension;
      fact = c.accepted_tables_keep_a_schema_declared.ensures.fact;
      fits = c.rows_fit_by_their_kinds.ensures;
      kept = c.a_new_row_moves_no_other.ensures.kept;
      others = c.a_new_row_moves_no_other.ensures.others;
      keyed = c.a_new_row_moves_no_other.ensures.keyed;
    })
    empty_store history (settled_empty (c.empty_schemas_are_declared.ensures empty_store.schema refl refl)) accepted

pub returns-clause-next : goal.returns-clause-next
returns-clause-next c =
    settled_after
    (record {
      dimension = c.accepted_tables_keep_a_schema_declared.ensures.dimension;
      fact = c.accepted_tables_keep_a_schema_declared.ensures.fact;
      fits = c.rows_fit_by_their_kinds.ensures;
      kept = c.a_new_row_moves_no_other.ensures.kept;
      others = c.a_new_row_moves_no_other.ensures.others;
      keyed = c.a_new_row_moves_no_other.ensures.keyed;
    })
