-- A select by its parts.
use Rattle.std.specs.Prelude.{ℕ, List, ◌++◌, filter_map, flat_map, Option}
use Rattle.star_parser.specs.declared.ast.AstItem.{AstItem}
use Rattle.star_parser.specs.declared.tree.Column.{Column}
use Rattle.star_parser.specs.Condition.{Condition}
use Rattle.star_binder.specs.Named.{column_of_item, columns_in, where_conjuncts}

-- the items, the names in FROM, the conjuncts of the WHERE, and the columns of GROUP BY
pub record SelectParts : Type 0 where
  pub items : List AstItem
  pub names : List (List ℕ)
  pub conjuncts : List Condition
  pub groups : List Column

-- the parts of a select
abbrev pub select_of : List AstItem → List (List ℕ) → Option Condition → List Column → SelectParts
select_of items names condition groups =
    record { items = items; names = names; conjuncts = where_conjuncts condition; groups = groups }

-- the columns that a select names: those of its items, of its conjuncts and of its groups
abbrev pub columns_named : SelectParts → List Column
columns_named select =
    filter_map column_of_item select.items ++ flat_map columns_in select.conjuncts ++ select.groups
