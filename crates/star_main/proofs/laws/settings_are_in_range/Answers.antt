use Rattle.star_main.proofs.RangeLemmas.{in_range}
use Rattle.star_main.proofs.laws.settings_are_in_range.Goals as goal

pub returns : goal.returns
returns c = in_range
