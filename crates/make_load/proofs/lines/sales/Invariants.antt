use Rattle.std.proofs.Common.{◌≡◌}
use Rattle.make_load.specs.Script.{for_each, sale}
use Rattle.make_load.proofs.lines.sales.Given as goal

-- the sales so far are written
abbrev pub invariant-loop-number : goal.invariant-loop-number
invariant-loop-number l = l.draft ≡ for_each l._number (λ number. sale) l.initial.draft
