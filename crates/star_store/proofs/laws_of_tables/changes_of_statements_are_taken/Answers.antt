use Rattle.star_store.proofs.TakenLemmas.{delete_taken, load_taken}
use Rattle.star_store.proofs.laws_of_tables.changes_of_statements_are_taken.Goals as goal

pub returns-clause-load : goal.returns-clause-load
returns-clause-load c =
    load_taken
    (record {
      fits = c.rows_fit_by_their_kinds.ensures;
      kinds = c.rows_have_the_kinds.ensures.rows;
      count = c.each_record_is_a_row.ensures;
    })

pub returns-clause-delete : goal.returns-clause-delete
returns-clause-delete c = delete_taken
