use Rattle.make_load.proofs.LengthLemmas.{made_script-short}
use Rattle.make_load.proofs.laws.made_scripts_are_within_the_limit.Goals as goal

pub returns : goal.returns
returns c = λ seed rows few. made_script-short seed rows few
