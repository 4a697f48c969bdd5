-- The words of a fault in reading a block.
use Rattle.std.specs.Prelude.{ℕ, List, codes}
use Rattle.csv_load.specs.declared.block.BlockFault.{BlockFault}
use Rattle.csv_load.specs.declared.block.BlockFault.TheVariants.{BadRecord, Memory}

-- what is printed of a fault
abbrev pub words_of_fault : BlockFault → List ℕ
words_of_fault BadRecord = codes "bad record"
words_of_fault Memory = codes "out of memory"
