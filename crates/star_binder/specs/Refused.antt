-- Why a select or a delete is refused over a schema, and what it is where it is not: there is one
-- order of checks, and the first that fails gives the reason.
use Rattle.std.specs.Prelude.{ℕ, Bool, false, not, ◌||◌, nat_lt, List, [], ◌∷◌, map, flat_map, length, Option, is_none, Result, Ok, Err, if◌then◌else◌}
use Rattle.std.specs.List.{list_any}
use Rattle.std.specs.Option.{option_map_or}
use Rattle.star_values.specs.declared.value.Kind.TheVariants as kind
use Rattle.star_values.specs.declared.refusal.Refusal.{Refusal}
use Rattle.star_values.specs.declared.refusal.Refusal.TheVariants as refusal
use Rattle.star_values.specs.declared.value.Value.{Value}
use Rattle.star_parser.specs.declared.ast.AstItem.{AstItem}
use Rattle.star_parser.specs.declared.ast.AstItem.TheVariants.{Plain, CountAll, Count, Sum, Min, Max}
use Rattle.star_parser.specs.declared.tree.Column.{Column}
use Rattle.star_parser.specs.Condition.{Condition}
use Rattle.star_plan.specs.Fits.{fits_column, same_kind}
use Rattle.star_plan.specs.Columns.{kind_at, kinds_of, columns_of, same_table}
use Rattle.star_plan.specs.Test as plan
use Rattle.star_plan.specs.Test.{Query}
use Rattle.star_plan.specs.declared.schema.Schema.{Schema}
use Rattle.star_plan.specs.Named.{table_named}
use Rattle.star_plan.specs.Repeats.{repeats}
use Rattle.star_plan.specs.declared.table.Table.{Table}
use Rattle.star_plan.specs.declared.table.Table.TheVariants.{Fact, Dimension}
use Rattle.star_binder.specs.Bound.{number_of, query_in, test_on}
use Rattle.star_binder.specs.Conjuncts.{is_mixed, joins}
use Rattle.star_binder.specs.Named.{columns_in, literals_in}
use Rattle.star_binder.specs.Select.{SelectParts, columns_named}
use Rattle.star_binder.specs.declared.TheConstants.{MAX_GROUPS, MAX_ITEMS}
use Rattle.star_plan.specs.Answer.{same_place}
use Rattle.star_binder.specs.Places.{is_ambiguous, is_unknown, place_of, table_of, tables_named}
use Rattle.star_binder.specs.Scope.{TablesInScope}

-- whether a name is that of no table
abbrev pub names_no_table : Schema → List ℕ → Bool
names_no_table schema name = is_none (table_named schema name)

-- whether a literal has not the kind of the column beside it
abbrev pub is_of_another_kind : TablesInScope → Column × Value → Bool
is_of_another_kind scope literal =
    not (fits_column (kinds_of (columns_of scope.schema (table_of scope literal.0)))
    (number_of scope literal.0) literal.1)

-- whether some literal of these conjuncts has not
abbrev pub has_another_kind : TablesInScope → List Condition → Bool
has_another_kind scope conjuncts =
    list_any (is_of_another_kind scope) (flat_map literals_in conjuncts)

-- whether an item is the sum of a column that has no integers
abbrev pub sums_a_text : TablesInScope → AstItem → Bool
sums_a_text scope (Plain column) = false
sums_a_text scope CountAll = false
sums_a_text scope (Count column) = false
sums_a_text scope (Sum column) =
    not (option_map_or (same_kind kind.Int) (kind_at scope.schema (place_of scope column)) false)
sums_a_text scope (Min column) = false
sums_a_text scope (Max column) = false

-- whether a table is a dimension that no conjunct joins
abbrev pub is_not_joined : TablesInScope → List Condition → Table → Bool
is_not_joined scope conjuncts Fact = false
is_not_joined scope conjuncts (Dimension dimension) =
    not (list_any (joins scope dimension) conjuncts)

-- whether the fact table is missing, or a dimension is not joined
abbrev pub lacks_a_join : TablesInScope → List Condition → Bool
lacks_a_join scope conjuncts =
    not (list_any (same_table Fact) scope.tables)
    || list_any (is_not_joined scope conjuncts) scope.tables

-- whether an item is a plain column that is none of the groups
abbrev pub is_not_grouped : TablesInScope → List Column → AstItem → Bool
is_not_grouped scope groups (Plain column) =
    not (list_any (same_place (place_of scope column)) (map (place_of scope) groups))
is_not_grouped scope groups CountAll = false
is_not_grouped scope groups (Count column) = false
is_not_grouped scope groups (Sum column) = false
is_not_grouped scope groups (Min column) = false
is_not_grouped scope groups (Max column) = false

-- the query of a select whose names are known, or the first reason that refuses it
abbrev pub bound_named : TablesInScope → SelectParts → Result Query Refusal
bound_named scope select =
    if has_another_kind scope select.conjuncts || list_any (sums_a_text scope) select.items
    then Err refusal.TypeMismatch else
    if lacks_a_join scope select.conjuncts then Err refusal.MissingJoin else
    if list_any (is_mixed scope) select.conjuncts then Err refusal.MixedConjunct else
    if list_any (is_not_grouped scope select.groups) select.items then Err refusal.NotGrouped else
    Ok (query_in scope select)

-- the query of a select whose FROM names these tables, or the first reason that refuses it
abbrev pub bound_over : TablesInScope → SelectParts → Result Query Refusal
bound_over scope select =
    if repeats same_table scope.tables then Err refusal.DuplicateName else
    if list_any (names_no_table scope.schema) select.names
    || list_any (is_unknown scope) (columns_named select) then Err refusal.UnknownName else
    if nat_lt MAX_ITEMS (length select.items) || nat_lt MAX_GROUPS (length select.groups)
    then Err refusal.Limit else
    if list_any (is_ambiguous scope) (columns_named select) then Err refusal.AmbiguousName else
    bound_named scope select

-- the tables of a select whose FROM names these
abbrev pub from_tables : Schema → List (List ℕ) → TablesInScope
from_tables schema names = record { schema = schema; tables = tables_named schema names }

-- the query of a select, or the first reason that refuses it
unfoldable pub bound_select : Schema → SelectParts → Result Query Refusal
bound_select schema select = bound_over (from_tables schema select.names) select

-- the only table of a delete
abbrev pub fact_alone : Schema → TablesInScope
fact_alone schema = record { schema = schema; tables = Fact ∷ [] }

-- whether a name is that of the fact table
abbrev pub names_the_fact : Schema → List ℕ → Bool
names_the_fact schema name = option_map_or (same_table Fact) (table_named schema name) false

-- the test of a delete from the table of this name, where it has a condition, or the first reason
-- that refuses it: its columns are those of these tables
abbrev pub bound_in : TablesInScope → List ℕ → List Condition → Result (Option plan.Test) Refusal
bound_in scope name conjuncts =
    if not (names_the_fact scope.schema name)
    || list_any (is_unknown scope) (flat_map columns_in conjuncts) then Err refusal.UnknownName else
    if has_another_kind scope conjuncts then Err refusal.TypeMismatch else
    if list_any (is_mixed scope) conjuncts then Err refusal.MixedConjunct else
    Ok (test_on scope conjuncts Fact)

-- the same of a delete over a schema: its columns are those of the fact table
unfoldable pub bound_delete : Schema → List ℕ → List Condition → Result (Option plan.Test) Refusal
bound_delete schema name conjuncts = bound_in (fact_alone schema) name conjuncts
