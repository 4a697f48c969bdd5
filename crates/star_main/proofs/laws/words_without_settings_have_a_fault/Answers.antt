use Rattle.star_main.proofs.FaultLemmas.{no_settings-fault}
use Rattle.star_main.proofs.laws.words_without_settings_have_a_fault.Goals as goal

pub returns : goal.returns
returns c = no_settings-fault
