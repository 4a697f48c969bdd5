use Rattle.std.proofs.Common.{◌≡◌, length, true}
use Rattle.std.specs.List.{All}
use Rattle.filter_order.specs.Spares.{HasPlace, is_present, with_all_returned}
use Rattle.filter_order.proofs.spares.give_each.Given as goal

-- those that are still to give lead to the same as all did
abbrev pub invariant-versions : goal.invariant-versions
invariant-versions l = record {
  places : All (λ version. is_present l.filters.versions version ≡ true →
      HasPlace version.filter.dimension l.seat l.spares) l.versions;
  all :
      with_all_returned l.seat l.filters.versions l.versions l.spares
      ≡ with_all_returned l.seat l.filters.versions l.initial.versions l.initial.spares;
}

abbrev pub decreases-versions : goal.decreases-versions
decreases-versions l = length l.versions
