use Rattle.std.proofs.Common.{◌≡◌, ◌++◌, drop}
use Rattle.filter_order.specs.Spares.{first_spares}
use Rattle.filter_order.proofs.spares.references_of_all.Given as goal

abbrev pub invariant-versions : goal.invariant-versions
invariant-versions l =
    l.spares ++ first_spares l.seats (drop l.version-index l.versions) ≡ first_spares l.seats l.versions
