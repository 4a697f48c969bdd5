use Rattle.star_main.proofs.HelpLemmas.{help_names_none}
use Rattle.star_main.proofs.laws.words_that_ask_for_help_name_no_settings.Goals as goal

pub returns : goal.returns
returns c = help_names_none
