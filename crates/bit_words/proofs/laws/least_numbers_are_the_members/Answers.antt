use Rattle.bit_words.proofs.SetLemmas.{members_below-least}
use Rattle.bit_words.proofs.laws.least_numbers_are_the_members.Goals as goal

pub returns : goal.returns
returns c = members_below-least
