use Rattle.std.proofs.Common.{◌≡◌}
use Rattle.make_load.specs.Script.{for_each, block}
use Rattle.make_load.proofs.lines.script.Given as goal

-- the blocks so far are written
abbrev pub invariant-loop-number : goal.invariant-loop-number
invariant-loop-number l = l.draft ≡ for_each l.number (block l.rows) l.initial.draft
