use Rattle.star_main.proofs.SettingsLemmas.{hyphens_name_none}
use Rattle.star_main.proofs.laws.two_hyphens_name_no_settings.Goals as goal

pub returns : goal.returns
returns c = hyphens_name_none
