-- How a fault of a line is printed.
use Rattle.std.specs.Prelude.{ℕ, List, ◌++◌, codes, decimal}
use Rattle.star_parser.specs.declared.fault.ParseFault.{ParseFault}
use Rattle.star_parser.specs.declared.fault.ParseFault.TheVariants.{Limit, Syntax, Memory}

-- the words of a fault
abbrev pub words_of_fault : ParseFault → List ℕ
words_of_fault Limit = codes "over a limit"
words_of_fault (Syntax place) = codes "syntax at " ++ decimal place
words_of_fault Memory = codes "out of memory"
