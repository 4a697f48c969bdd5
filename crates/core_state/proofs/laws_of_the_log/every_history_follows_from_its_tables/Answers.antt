use Rattle.core_state.proofs.Words.{after_steps, changes_of, empty_core}
use Rattle.core_state.proofs.laws_of_the_log.every_history_follows_from_its_tables.Goals as goal

pub returns : goal.returns
returns c settings steps within may =
    let sound = c.every_core_is_sound.ensures.from_none settings steps within may in
    c.changes_follow_from_the_tables.ensures (changes_of (after_steps steps (empty_core settings)).entries) sound.store sound.ends
