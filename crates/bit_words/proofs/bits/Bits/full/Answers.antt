use Rattle.bit_words.proofs.WordLemmas.{Has-full}
use Rattle.bit_words.proofs.bits.Bits.full.Goals as goal

pub returns : goal.returns
returns g c = λ i within. Has-full g.row.W i within
