use Rattle.continuous_scan.proofs.LapLemmas.{lap-permutation}
use Rattle.continuous_scan.proofs.laws.a_lap_has_each_position_once.Goals as goal

pub returns : goal.returns
returns c = lap-permutation
