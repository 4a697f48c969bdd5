-- The columns that are known stand in tables that are named, and their places are those of columns.
use Rattle.std.proofs.Common.{◌≡◌, ℕ, ◌<◌, true, false, List, [], ◌∷◌, ◌++◌, length, map, slice_get, Option, Some, None, is_some, refl, ap, sym, ◌∙◌, subst, arith, bytes_eq, IsSome}
use Rattle.std.specs.List.{All, Contains, filter_map, flat_map, list_any}
use Rattle.std.specs.Option.{option_map, option_map_or}
use Rattle.std.proofs.lemmas.Bool.{and_parts, not-false, or_parts}
use Rattle.std.proofs.lemmas.List.Elements.{All-append, All-cons, All-map, All-nil, All-weaker}
use Rattle.std.proofs.lemmas.List.Quantifiers.{position-Some}
use Rattle.std.proofs.lemmas.Option.{slice_get-get_or, slice_get-map, slice_get_within}
use Rattle.star_parser.specs.declared.ast.AstItem.{AstItem}
use Rattle.star_parser.specs.declared.ast.AstItem.TheVariants as written
use Rattle.star_parser.specs.declared.tree.Column.{Column}
use Rattle.star_plan.specs.Columns.{kind_at, columns_of}
use Rattle.star_plan.specs.Over.{place_of_item}
use Rattle.star_plan.specs.declared.column_def.ColumnDef.{ColumnDef}
use Rattle.star_plan.specs.declared.place.Place.{Place}
use Rattle.star_plan.specs.declared.place.Place.TheVariants as place
use Rattle.star_plan.specs.declared.schema.Schema.{Schema}
use Rattle.star_plan.specs.declared.table_def.TableDef.{TableDef}
use Rattle.star_plan.specs.Named.{column_named}
use Rattle.star_plan.specs.declared.table.Table.{Table}
use Rattle.star_plan.specs.declared.table.Table.TheVariants.{Fact, Dimension}
use Rattle.star_binder.specs.Bound.{bound_item}
use Rattle.star_binder.specs.Named.{column_of_item, columns_in}
use Rattle.star_binder.specs.Select.{SelectParts, columns_named}
use Rattle.star_binder.specs.Places.{is_name_of, is_unknown, place_in, place_of, place_within, stands_in}
use Rattle.star_binder.proofs.ListLemmas.{All-fails, find_passes, list_any_parts}
use Rattle.star_binder.specs.Scope.{TablesInScope}

-- a place is that of a column of one of these tables
pub record Stands (scope : TablesInScope) (at : Place) : Type 0 where
  pub table : Table
  pub column : ℕ
  pub among : Contains scope.tables table
  pub is : at ≡ place_in table column
  pub below : column < length (columns_of scope.schema table)

-- the column of a name, where there is one
named_column : (columns : List ColumnDef) (name : List ℕ) → is_some (column_named columns name) ≡ true
    → (number : ℕ) × (column_named columns name ≡ Some number) × (number < length columns)
named_column columns name h = by columns name (column_named columns name) refl h
  where
    by : (columns : List ColumnDef) (name : List ℕ) (o : Option ℕ) → column_named columns name ≡ o → is_some o ≡ true
        → (number : ℕ) × (column_named columns name ≡ Some number) × (number < length columns)
    by columns name None e h = cc
    by columns name (Some number) e h = (number, e, below columns name number e)
      where
        below : (columns : List ColumnDef) (name : List ℕ) (number : ℕ) → column_named columns name ≡ Some number → number < length columns
        below [] name number e = cc
        below (first ∷ rest) name number e = (position-Some (λ column. bytes_eq column.name name) (first ∷ rest) number first e).0

-- the place of a column in a table in which it stands
within-Stands : (scope : TablesInScope) (column : Column) (table : Table) → Contains scope.tables table → stands_in scope.schema column table ≡ true
    → Stands scope (place_within scope.schema column table)
within-Stands scope column table among h =
    let found = named_column (columns_of scope.schema table) column.name
    (and_parts (option_map_or (is_name_of scope.schema table) column.table true) (is_some (column_named (columns_of scope.schema table) column.name)) h).1 in
    record {
      table = table;
      column = found.0;
      among = among;
      is = ap (λ o. place_in table (option_map_or (λ number. number) o 0)) found.1;
      below = found.2;
    }

-- a known column stands in a table that is named
pub place_of-Stands : (scope : TablesInScope) (column : Column) → is_unknown scope column ≡ false
    → Stands scope (place_of scope column)
place_of-Stands scope column h =
    let found = find_passes (stands_in scope.schema column) scope.tables (not-false (list_any (stands_in scope.schema column) scope.tables) h) in
    subst (λ (o : Option Table). Stands scope (option_map_or (place_within scope.schema column) o (place.Fact 0))) (sym found.1)
    (within-Stands scope column found.0 found.3 found.2)

-- below the length of a list there is an element, and so what is made of it
is_some-below : {X Y : Type 0} (f : X → Y) (xs : List X) (i : ℕ) → i < length xs → is_some (slice_get (map f xs) i) ≡ true
is_some-below f [] i h = absurd (omega arith)
is_some-below f (x ∷ xs) i h = ap is_some (slice_get-map f (x ∷ xs) i ∙ ap (option_map f) (slice_get-get_or (x ∷ xs) i x h))

-- a column of a table has a kind
kind_at-place_in : (schema : Schema) (table : Table) (column : ℕ) → column < length (columns_of schema table) → IsSome (kind_at schema (place_in table column))
kind_at-place_in schema Fact column h = is_some-below (λ column. column.kind) (columns_of schema Fact) column h
kind_at-place_in schema (Dimension dimension) column h = is_some-below (λ column. column.kind) (columns_of schema (Dimension dimension)) column h

-- the place of a column has a kind
pub kind_at-Stands : (scope : TablesInScope) (at : Place) → Stands scope at → IsSome (kind_at scope.schema at)
kind_at-Stands scope at h =
    subst (λ (p : Place). IsSome (kind_at scope.schema p)) (sym h.is) (kind_at-place_in scope.schema h.table h.column h.below)

-- a dimension that has columns is one of the schema
dimension_below : (tables : List TableDef) (dimension column : ℕ)
    → column < length (option_map_or (λ table. table.columns) (slice_get tables dimension) []) → dimension < length tables
dimension_below tables dimension column h = by tables dimension column (slice_get tables dimension) refl h
  where
    by : (tables : List TableDef) (dimension column : ℕ) (o : Option TableDef) → slice_get tables dimension ≡ o
        → column < length (option_map_or (λ table. table.columns) o []) → dimension < length tables
    by tables dimension column None e h = absurd (omega arith)
    by tables dimension column (Some table) e h = slice_get_within tables dimension table e

-- the place of a column of a dimension: the dimension is named, and it is one of the schema
pub dimension-Stands : (scope : TablesInScope) (dimension column : ℕ) → Stands scope (place.Dimension dimension column)
    → Contains scope.tables (Dimension dimension) × (dimension < length scope.schema.dimensions)
dimension-Stands scope dimension column h = by h.table h.column h.among h.is h.below
  where
    by : (table : Table) (number : ℕ) → Contains scope.tables table → place.Dimension dimension column ≡ place_in table number
        → number < length (columns_of scope.schema table) → Contains scope.tables (Dimension dimension) × (dimension < length scope.schema.dimensions)
    by Fact number among e low = cc
    by (Dimension other) number among e low =
        let same : other ≡ dimension = cc in (
          subst (λ (d : ℕ). Contains scope.tables (Dimension d)) same among,
          subst (λ (d : ℕ). d < length scope.schema.dimensions) same (dimension_below scope.schema.dimensions other number low),
        )

module _ (scope : TablesInScope) where
  -- the places of known columns
  places-Stands : (columns : List Column) → list_any (is_unknown scope) columns ≡ false
      → All (Stands scope) (map (place_of scope) columns)
  places-Stands columns h =
      All-map (Stands scope) (place_of scope) columns
      (All-weaker (λ column. is_unknown scope column ≡ false) (λ column. Stands scope (place_of scope column))
      (place_of-Stands scope) columns (All-fails (is_unknown scope) columns h))

  -- a known column before others
  place-first : (column : Column) (columns : List Column) (places : List Place)
      → (list_any (is_unknown scope) columns ≡ false → All (Stands scope) places)
      → list_any (is_unknown scope) (column ∷ columns) ≡ false
      → All (Stands scope) (place_of scope column ∷ places)
  place-first column columns places later h =
      let two = or_parts (is_unknown scope column) (list_any (is_unknown scope) columns) h in
      All-cons (Stands scope) (place_of scope column) places (place_of-Stands scope column two.0) (later two.1)

  -- the places of items whose columns are known
  item_places-Stand : (items : List AstItem) → list_any (is_unknown scope) (filter_map column_of_item items) ≡ false
      → All (Stands scope) (filter_map place_of_item (map (bound_item scope) items))
  item_places-Stand [] h = All-nil (Stands scope)
  item_places-Stand (item ∷ items) h = by item items h (item_places-Stand items)
    where
      by : (item : AstItem) (items : List AstItem) → list_any (is_unknown scope) (filter_map column_of_item (item ∷ items)) ≡ false
          → (list_any (is_unknown scope) (filter_map column_of_item items) ≡ false
          → All (Stands scope) (filter_map place_of_item (map (bound_item scope) items)))
          → All (Stands scope) (filter_map place_of_item (map (bound_item scope) (item ∷ items)))
      by (written.Plain column) items h later = place-first column (filter_map column_of_item items) _ later h
      by written.CountAll items h later = later h
      by (written.Count column) items h later = place-first column (filter_map column_of_item items) _ later h
      by (written.Sum column) items h later = place-first column (filter_map column_of_item items) _ later h
      by (written.Min column) items h later = place-first column (filter_map column_of_item items) _ later h
      by (written.Max column) items h later = place-first column (filter_map column_of_item items) _ later h

  -- the places of the groups and items of a query whose columns are known
  pub all_places-Stand : (select : SelectParts) → list_any (is_unknown scope) (columns_named select) ≡ false
      → All (Stands scope) (map (place_of scope) select.groups ++ filter_map place_of_item (map (bound_item scope) select.items))
  all_places-Stand select h =
      let last = list_any_parts (is_unknown scope) (filter_map column_of_item select.items ++ flat_map columns_in select.conjuncts) select.groups h in
      let first = list_any_parts (is_unknown scope) (filter_map column_of_item select.items) (flat_map columns_in select.conjuncts) last.0 in
      All-append (Stands scope) (map (place_of scope) select.groups) (filter_map place_of_item (map (bound_item scope) select.items))
      (places-Stands select.groups last.1) (item_places-Stand select.items first.0)
