use Rattle.script_run.proofs.LapPieceLemmas.{laps-add-up}
use Rattle.script_run.proofs.laws.laps_add_up_over_pieces.Goals as goal

pub returns : goal.returns
returns c = laps-add-up
