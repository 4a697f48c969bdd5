use Rattle.bit_words.proofs.SetLemmas.{same_members}
use Rattle.bit_words.proofs.laws.sets_are_their_members.Goals as goal

pub returns : goal.returns
returns c = same_members
