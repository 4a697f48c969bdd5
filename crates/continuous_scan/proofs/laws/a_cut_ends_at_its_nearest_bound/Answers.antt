use Rattle.continuous_scan.proofs.EndLemmas.{ends-nearest}
use Rattle.continuous_scan.proofs.laws.a_cut_ends_at_its_nearest_bound.Goals as goal

pub returns : goal.returns
returns c = ends-nearest
