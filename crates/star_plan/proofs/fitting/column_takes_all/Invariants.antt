use Rattle.std.proofs.Common.{◌≡◌, drop, map}
use Rattle.std.specs.List.{list_all}
use Rattle.star_values.specs.Value.{kind_of}
use Rattle.star_plan.specs.Fits.{fits_column}
use Rattle.star_plan.proofs.fitting.column_takes_all.Given as goal

-- all values fit where those that are left do
abbrev pub invariant-loop-value : goal.invariant-loop-value
invariant-loop-value l =
    list_all (fits_column (map kind_of l.row) l.column) (drop l.value-index l.value-items) ≡ list_all (fits_column (map kind_of l.row) l.column) l.value-items
