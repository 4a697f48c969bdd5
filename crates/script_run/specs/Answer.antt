-- What is left behind the statements that are whole, and which writes failed.
use Rattle.std.specs.Prelude.{◌≡◌, [], Result, Ok, Err}
use Rattle.star_io.specs.Faults.{FailedOnce}
use Rattle.star_io.specs.Link.{WritingSide}
use Rattle.script_reader.specs.Reading.{Reading}
use Rattle.script_reader.specs.Script.{statements_of}
use Rattle.script_run.specs.declared.halt.Halt.{Halt}
use Rattle.script_run.specs.declared.halt.Halt.TheVariants.{WriteFault, NoMemory}

-- no statement that waits is whole
abbrev pub HasNoStatement : Reading → Type 0
HasNoStatement waits = statements_of waits.ended waits.waiting ≡ []

-- one write failed, the last one, where that is why the run halts, and else none did
abbrev pub CountsHalt : {A : Type 0} → Result A Halt → (to to' : WritingSide) → Type 0
CountsHalt (Ok x) to to' = to'.faults ≡ to.faults
CountsHalt (Err WriteFault) to to' = FailedOnce to.faults to'.faults to'.failed
CountsHalt (Err NoMemory) to to' = to'.faults ≡ to.faults
