use Rattle.star_values.proofs.SmallTextLemmas.{Decides-is_small_text}
use Rattle.star_values.proofs.small_text.small_text_rule_is_tested.Goals as goal

pub returns : goal.returns
returns c = Decides-is_small_text
