use Rattle.core_state.proofs.MoverLemmas.{abandons-row, mindful-step, mindful-steps}
use Rattle.core_state.proofs.laws_of_rows.a_step_moves_one_row.Goals as goal

pub returns-clause-one : goal.returns-clause-one
returns-clause-one c = mindful-step

pub returns-clause-all : goal.returns-clause-all
returns-clause-all c = mindful-steps c.every_step_keeps_a_core_sound.ensures

pub returns-clause-abandons : goal.returns-clause-abandons
returns-clause-abandons c = abandons-row
