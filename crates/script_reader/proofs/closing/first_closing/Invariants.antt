use Rattle.std.proofs.Common.{◌-◌, ◌≤◌, length}
use Rattle.script_reader.proofs.BlockLemmas.{IsInBlock, StaysInBlock}
use Rattle.script_reader.proofs.ReachLemmas.{HasLines}
use Rattle.script_reader.proofs.closing.first_closing.Given as goal

-- the block has the lines so far, and goes on behind them
abbrev pub invariant-lines : goal.invariant-lines
invariant-lines l = record {
  within : l.len ≤ length l.script;
  block : IsInBlock l.ended l.script l.len;
  stays : StaysInBlock l.ended l.script l.len;
  lines : HasLines l.ended l.script l.len;
}

abbrev pub decreases-lines : goal.decreases-lines
decreases-lines l = length l.script - l.len
