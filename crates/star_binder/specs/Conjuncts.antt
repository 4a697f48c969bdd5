-- The conjuncts of a WHERE: key joins, and conditions on one table each.
use Rattle.std.specs.Prelude.{ℕ, Bool, false, not, ◌&&◌, ◌||◌, ◌==◌, List, [], ◌∷◌, map, slice_get, Option, Some, None, is_none, if◌then◌else◌}
use Rattle.std.specs.List.{list_any}
use Rattle.std.specs.Option.{option_map_or}
use Rattle.star_parser.specs.Condition.{Condition, Either, Both, Negate, Test, Same, Between, OneOf}
use Rattle.star_plan.specs.Columns.{fact_columns, same_table}
use Rattle.star_plan.specs.declared.place.Place.{Place}
use Rattle.star_plan.specs.declared.place.Place.TheVariants.{Fact, Dimension}
use Rattle.star_plan.specs.declared.schema.Schema.{Schema}
use Rattle.star_plan.specs.declared.table.Table.{Table}
use Rattle.star_plan.specs.declared.table.Table.TheVariants as table
use Rattle.star_binder.specs.Named.{columns_in, compares_columns}
use Rattle.star_binder.specs.Places.{place_of, table_of}
use Rattle.star_binder.specs.Scope.{TablesInScope}

-- whether a column of the fact table references a dimension
abbrev pub references : Schema → ℕ → ℕ → Bool
references schema column dimension =
    option_map_or (λ defined. option_map_or (λ target. target == dimension) defined.target false)
    (slice_get (fact_columns schema) column) false

-- the dimension whose key is the second place, where the first is a fact column that references it
abbrev pub joined_by_key : Schema → ℕ → ℕ → ℕ → Option ℕ
joined_by_key schema reference dimension column =
    if column == 0 && references schema reference dimension then Some dimension else None

-- the dimension that two places join, in either order
abbrev pub joined_dimension : Schema → Place → Place → Option ℕ
joined_dimension schema (Fact reference) (Dimension dimension column) =
    joined_by_key schema reference dimension column
joined_dimension schema (Dimension dimension column) (Fact reference) =
    joined_by_key schema reference dimension column
joined_dimension schema (Fact left) (Fact right) = None
joined_dimension schema (Dimension left column) (Dimension right other) = None

-- the dimension that a conjunct joins, where it is a key join
abbrev pub key_join : TablesInScope → Condition → Option ℕ
key_join scope (Same left right) =
    joined_dimension scope.schema (place_of scope left) (place_of scope right)
key_join scope (Either ts) = None
key_join scope (Both ts) = None
key_join scope (Negate t) = None
key_join scope (Test column how value) = None
key_join scope (Between column low high) = None
key_join scope (OneOf column values) = None

-- whether a conjunct joins this dimension
abbrev pub joins : TablesInScope → ℕ → Condition → Bool
joins scope dimension t = option_map_or (λ joined. joined == dimension) (key_join scope t) false

-- whether a table other than the first stands in a list
abbrev pub has_another : List Table → Bool
has_another [] = false
has_another (table ∷ tables) = list_any (λ other. not (same_table table other)) tables

-- the tables of the columns that a condition names
abbrev pub tables_in : TablesInScope → Condition → List Table
tables_in scope t = map (table_of scope) (columns_in t)

-- whether a conjunct is no key join, and compares two columns or names columns of two tables
abbrev pub is_mixed : TablesInScope → Condition → Bool
is_mixed scope t =
    is_none (key_join scope t) && (compares_columns t || has_another (tables_in scope t))

-- the table of the first column that a condition names; one that names none, which no line has,
-- counts to the fact table
abbrev pub first_table : TablesInScope → Condition → Table
first_table scope t = option_map_or (λ table. table) (slice_get (tables_in scope t) 0) table.Fact

-- whether a conjunct is a condition on this table: no key join, and its columns are the table's
abbrev pub is_on : TablesInScope → Table → Condition → Bool
is_on scope table t = is_none (key_join scope t) && same_table table (first_table scope t)
