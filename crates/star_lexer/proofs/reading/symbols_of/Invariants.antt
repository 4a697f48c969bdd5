use Rattle.star_lexer.proofs.TokenLemmas.{AreSoFar}
use Rattle.star_lexer.proofs.reading.symbols_of.Given as goal

abbrev pub invariant-tokens : goal.invariant-tokens
invariant-tokens l = AreSoFar l.line l.tokens l.token-index l.symbols.items
