use Rattle.core_state.proofs.EffectLemmas.{reply-since}
use Rattle.core_state.proofs.laws_of_replies.the_reply_to_a_statement_is_that_of_its_effect.Goals as goal

pub returns : goal.returns
returns c = reply-since (record {
  ignores = c.answers_ignore_the_order_of_rows.ensures.answer;
  stays = c.later_changes_are_not_seen.ensures.answer;
  settles = c.accepted_histories_are_settled.ensures.all;
  outcomes = c.outcomes_fit_the_tables.ensures;
  keep = c.every_step_keeps_a_core_sound.ensures;
})
