use Rattle.star_store.proofs.ReasonLemmas.{Below}
use Rattle.star_store.proofs.ScriptLemmas.{script-formed, statements-formed}
use Rattle.star_store.proofs.laws_of_scripts.replies_are_well_formed.Goals as goal

pub returns : goal.returns
returns c =
    let below : Below = record {
      tested = c.small_text_rule_is_tested.ensures;
      passed = c.texts_are_refused_for_the_first_reason.ensures.passed;
      syntax = c.texts_are_refused_for_the_first_reason.ensures.syntax;
      shaped = c.statements_have_their_shapes.ensures;
      over = c.bound_queries_keep_to_their_schema.ensures.select;
    } in
    record { behind = statements-formed below; script = script-formed below }
