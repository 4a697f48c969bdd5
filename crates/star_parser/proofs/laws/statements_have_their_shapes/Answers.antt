use Rattle.star_lexer.specs.Symbol.{symbolic}
use Rattle.star_parser.proofs.ShapeLemmas.{sentence_shaped}
use Rattle.star_parser.proofs.laws.statements_have_their_shapes.Goals as goal

pub returns : goal.returns
returns c = λ line meaning is. sentence_shaped (symbolic line).symbols meaning is.1
