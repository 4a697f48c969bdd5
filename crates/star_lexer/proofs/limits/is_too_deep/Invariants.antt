use Rattle.star_lexer.proofs.LimitLemmas.{IsCounted}
use Rattle.star_lexer.proofs.limits.is_too_deep.Given as goal

abbrev pub invariant-symbols : goal.invariant-symbols
invariant-symbols l = IsCounted l.symbols l.symbol-index l.opened l.closed
