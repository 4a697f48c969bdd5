use Rattle.std.proofs.Common.{◌≡◌, ◌++◌, drop}
use Rattle.star_lexer.specs.Written.{spaced_text}
use Rattle.star_lexer.proofs.writing.write_spaced.Given as goal

-- what is written, and what is still to be written, are all
abbrev pub invariant-symbols : goal.invariant-symbols
invariant-symbols l = l.line ++ spaced_text (drop l.symbol-index l.symbols) ≡ l.initial.line ++ spaced_text l.symbols
