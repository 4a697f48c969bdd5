use Rattle.std.proofs.Common.{◌≡◌, ◌-◌, ◌≤◌, length, drop}
use Rattle.script_reader.specs.Script.{statements_of}
use Rattle.script_reader.specs.Coming.{StaysPassed}
use Rattle.script_reader.proofs.ReachLemmas.{Passes}
use Rattle.script_reader.proofs.opening.first_opening.Given as goal

-- no statement begins in the lines so far
abbrev pub invariant-lines : goal.invariant-lines
invariant-lines l = record {
  within : l.end ≤ length l.script;
  passed : statements_of l.ended (drop l.end l.script) ≡ statements_of l.ended l.script;
  stays : StaysPassed l.ended l.script l.end;
  passes : Passes l.ended l.script l.end;
}

abbrev pub decreases-lines : goal.decreases-lines
decreases-lines l = length l.script - l.end
