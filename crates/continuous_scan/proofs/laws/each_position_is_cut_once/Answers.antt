use Rattle.continuous_scan.proofs.FollowLemmas.{lap-running, lap-last}
use Rattle.continuous_scan.proofs.laws.each_position_is_cut_once.Goals as goal

pub returns-clause-running : goal.returns-clause-running
returns-clause-running c = lap-running

pub returns-clause-last : goal.returns-clause-last
returns-clause-last c = lap-last
