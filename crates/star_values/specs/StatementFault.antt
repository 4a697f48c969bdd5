-- The words of a fault of a statement.
use Rattle.std.specs.Prelude.{ℕ, List, codes}
use Rattle.star_values.specs.Refusal.{words_of}
use Rattle.star_values.specs.declared.statement_fault.StatementFault.{StatementFault}
use Rattle.star_values.specs.declared.statement_fault.StatementFault.TheVariants.{Refused, Memory}

-- what is printed of a fault
abbrev pub words_of_fault : StatementFault → List ℕ
words_of_fault (Refused reason) = words_of reason
words_of_fault Memory = codes "out of memory"
