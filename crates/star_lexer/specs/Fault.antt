-- The words of a fault in reading a line.
use Rattle.std.specs.Prelude.{ℕ, List, codes}
use Rattle.star_lexer.specs.declared.fault.LineFault.{LineFault}
use Rattle.star_lexer.specs.declared.fault.LineFault.TheVariants.{Limit, Memory}

-- what is printed of a fault
abbrev pub words_of_fault : LineFault → List ℕ
words_of_fault Limit = codes "over a limit"
words_of_fault Memory = codes "out of memory"
