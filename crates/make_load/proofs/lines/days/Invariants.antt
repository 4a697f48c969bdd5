use Rattle.std.proofs.Common.{◌≡◌}
use Rattle.make_load.specs.Script.{for_each, day}
use Rattle.make_load.proofs.lines.days.Given as goal

-- the days so far are written
abbrev pub invariant-loop-key : goal.invariant-loop-key
invariant-loop-key l = l.draft ≡ for_each l.key day l.initial.draft
