-- What the program tells of a status on its standard error.
use Rattle.std.specs.Prelude.{ℕ, ◌==◌, Option, Some, None, if◌then◌else◌}
use Rattle.star_main.specs.declared.fault.Fault.{Fault}
use Rattle.star_main.specs.declared.fault.Fault.TheVariants.{Words, Read, Write, Memory, Limit, Door, Random}

-- nothing where the input was read to its end and every reply was written
abbrev pub fault_of : ℕ → Option Fault
fault_of status =
    if status == 2 then Some Words else
    if status == 3 then Some Read else
    if status == 4 then Some Write else
    if status == 5 then Some Memory else
    if status == 6 then Some Limit else
    if status == 7 then Some Door else
    if status == 8 then Some Random else None
