use Rattle.core_state.proofs.StepLemmas.{sound-step}
use Rattle.core_state.proofs.laws_of_runs.every_step_keeps_a_core_sound.Goals as goal

pub returns : goal.returns
returns c = sound-step (record {
  submit = c.a_statement_keeps_a_core_sound.ensures;
  reserve = c.a_reservation_keeps_a_core_sound.ensures;
  build = c.a_build_keeps_a_core_sound.ensures;
  build_wants = c.a_query_without_memory_keeps_a_core_sound.ensures;
  start = c.a_start_keeps_a_core_sound.ensures;
  cut = c.a_cut_keeps_a_core_sound.ensures;
  take = c.a_taken_batch_keeps_a_core_sound.ensures;
  carry = c.a_carried_batch_keeps_a_core_sound.ensures;
  give = c.a_given_batch_keeps_a_core_sound.ensures;
  distribute = c.a_distributed_batch_keeps_a_core_sound.ensures;
  finish = c.a_finish_keeps_a_core_sound.ensures;
  clear = c.a_clearing_keeps_a_core_sound.ensures;
  release = c.a_release_keeps_a_core_sound.ensures;
  reorder = c.a_new_order_keeps_a_core_sound.ensures;
  abandon = c.an_abandoned_query_keeps_a_core_sound.ensures;
  reply = c.a_taken_reply_keeps_a_core_sound.ensures;
})
