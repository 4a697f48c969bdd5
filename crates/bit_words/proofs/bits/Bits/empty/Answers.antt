use Rattle.bit_words.proofs.WordLemmas.{set_of-zeros}
use Rattle.bit_words.proofs.bits.Bits.empty.Goals as goal

pub returns : goal.returns
returns g c = set_of-zeros g.row.W
