-- How a run ends, by what became of its replies.
use Rattle.std.specs.Prelude.{Bool, true, false, ◌||◌, Result, Ok, Err}
use Rattle.star_io.specs.declared.run_end.RunEnd.{RunEnd}
use Rattle.star_io.specs.declared.run_end.RunEnd.TheVariants as end
use Rattle.script_run.specs.declared.halt.Halt.{Halt}
use Rattle.script_run.specs.declared.halt.Halt.TheVariants as halt

-- the replies halted at a write or for want of memory
abbrev pub end_of_halt : Halt → RunEnd
end_of_halt halt.WriteFault = end.WriteFault
end_of_halt halt.NoMemory = end.NoMemory

-- the input was read to its end, and some reply is a refusal or none is
abbrev pub end_of_all : Bool → RunEnd
end_of_all false = end.Clean
end_of_all true = end.SomeRefused

-- the reading ended so, and the replies behind it were written or halted
abbrev pub end_behind : Result Bool Halt → RunEnd → RunEnd
end_behind (Ok refused) reading = reading
end_behind (Err halt) reading = end_of_halt halt

-- the input was read to its end, and some reply was a refusal or none was, and the other
-- replies were written or halted
abbrev pub end_of_rest : (refused : Bool) → Result Bool Halt → RunEnd
end_of_rest refused (Ok others) = end_of_all (refused || others)
end_of_rest refused (Err halt) = end_of_halt halt
