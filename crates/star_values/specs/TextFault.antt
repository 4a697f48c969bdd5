-- The words of a fault in making a text.
use Rattle.std.specs.Prelude.{ℕ, List, codes}
use Rattle.star_values.specs.declared.small_text.TextFault.{TextFault}
use Rattle.star_values.specs.declared.small_text.TextFault.TheVariants.{BadText, Memory}

-- what is printed of a fault
abbrev pub words_of_fault : TextFault → List ℕ
words_of_fault BadText = codes "no text of a table"
words_of_fault Memory = codes "out of memory"
