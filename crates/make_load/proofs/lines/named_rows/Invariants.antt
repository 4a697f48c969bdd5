use Rattle.std.proofs.Common.{◌≡◌}
use Rattle.make_load.specs.Script.{for_each, named_record}
use Rattle.make_load.proofs.lines.named_rows.Given as goal

-- the records of the keys so far are written
abbrev pub invariant-loop-key : goal.invariant-loop-key
invariant-loop-key l = l.draft ≡ for_each l.key (named_record l.letter l.names l.least l.range) l.initial.draft
