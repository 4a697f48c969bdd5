use Rattle.script_run.proofs.ToldAloneLemmas.{seat-alone}
use Rattle.script_run.proofs.laws.a_seat_alone_is_a_run.Goals as goal

pub returns : goal.returns
returns c = seat-alone
