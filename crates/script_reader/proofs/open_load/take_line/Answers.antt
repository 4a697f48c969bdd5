use Rattle.std.proofs.Common.{ap, length, refl}
use Rattle.script_reader.proofs.open_load.take_line.Goals as goal

pub returns-then-is_empty-clause-taken : goal.returns-then-is_empty-clause-taken
returns-then-is_empty-clause-taken c = let none = c.requires.load (ap length (c.if-is_empty.ensures.0 refl)) in rw none c.take_first_line.ensures.taken

pub returns-then-is_empty-clause-err : goal.returns-then-is_empty-clause-err
returns-then-is_empty-clause-err c = let none = c.requires.load (ap length (c.if-is_empty.ensures.0 refl)) in rw none c.take_first_line.ensures.err
