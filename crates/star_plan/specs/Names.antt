-- The order of columns by their names.
use Rattle.std.specs.Ordering.{nat_cmp}
use Rattle.std.specs.Cmp.Lexicographic.{slice_cmp}
use Rattle.std.specs.declared.cmp.Ordering.{Ordering}
use Rattle.star_plan.specs.declared.column_def.ColumnDef.{ColumnDef}

-- columns are ordered by the bytes of their names
abbrev pub name_cmp : ColumnDef → ColumnDef → Ordering
name_cmp column other = slice_cmp nat_cmp column.name other.name
