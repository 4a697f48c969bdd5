use Rattle.std.proofs.Common.{◌≡◌, ◌++◌}
use Rattle.std.specs.Vec.Iter.{drain_items, DrainKeeps}
use Rattle.star_values.proofs.fading.forget.Given as goal

-- those that are gone, and those that are still to go, are all that are to be gone, and what stays is as it was
abbrev pub invariant-loop-member : goal.invariant-loop-member
invariant-loop-member g l =
    DrainKeeps l.initial.member-iterator l.member-iterator
    × (l.gone ++ drain_items l.member-iterator ≡ l.initial.gone ++ drain_items l.initial.member-iterator)
