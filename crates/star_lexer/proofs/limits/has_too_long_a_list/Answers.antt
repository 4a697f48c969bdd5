use Rattle.std.proofs.Common.{arith}
use Rattle.star_lexer.proofs.LimitLemmas.{no_list}
use Rattle.star_lexer.proofs.limits.has_too_long_a_list.Goals as goal

pub returns : goal.returns
returns c = no_list c.args.symbols.now c.places.place c.places.invariant (omega arith)
