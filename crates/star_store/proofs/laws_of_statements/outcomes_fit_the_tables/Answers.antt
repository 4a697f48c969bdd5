use Rattle.star_store.proofs.FittingLemmas.{outcome-follows}
use Rattle.star_store.proofs.laws_of_statements.outcomes_fit_the_tables.Goals as goal

pub returns : goal.returns
returns c = λ store statement settled.
    outcome-follows (record {
      passed = c.texts_are_refused_for_the_first_reason.ensures.passed;
      shaped = c.statements_have_their_shapes.ensures;
      over = c.bound_queries_keep_to_their_schema.ensures.select;
      load = c.changes_of_statements_are_taken.ensures.load;
      delete = c.changes_of_statements_are_taken.ensures.delete;
    }) store settled statement
