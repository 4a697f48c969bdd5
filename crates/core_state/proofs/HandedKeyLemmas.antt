-- A version that a query sees is joined by its key numbers as by its keys.
use Rattle.core_state.proofs.Words.{◌∙◌, ◌≡◌, ◌≤◌, [], ap, Bool, cond, DimensionRow, eq-eqb, eqb, fact_columns, false, foreign_key, get_or, HasKeyNumbers, is_visible, IsOver, IsPlaceOf, joined, joined_by_keys, joined_row, KeyedStore, length, List, list_any, list_any-from_Any, map, names, option_map_or, plain, position_or_len, Query, range_with_len, references, refl, row_of_key, rows_in, slice_get, Some, sym, true, value_in, Version, ℕ}
use Rattle.star_values.specs.declared.value.Value as cell
use Rattle.query_meaning.specs.Keyed.{key_number, row_at_key}
use Rattle.core_state.proofs.FoundLemmas.{some-at}
use Rattle.core_state.proofs.KeyedLemmas.{begun-by, foreign-there, key-row}

-- the row of a dimension that the query names
row-by-key : (tables : KeyedStore) (query : Query) (snapshot dimension : ℕ) (version : Version) → IsOver tables.schema query
    → HasKeyNumbers tables.schema tables.dimensions version → version.begin ≤ snapshot → names query dimension ≡ true
    → joined_row (plain tables) snapshot version.row dimension ≡ row_at_key tables.dimensions version dimension
row-by-key tables query snapshot dimension version over keyed low named =
    ap (λ o. option_map_or (row_of_key rows snapshot) o []) foreign ∙ row.2
    ∙ sym (ap (λ o. option_map_or (λ e. e.row) o []) row.0)
  where
    rows : List DimensionRow
    rows = rows_in tables.dimensions dimension

    key : cell.Value
    key = value_in version.row (position_or_len (references dimension) (fact_columns tables.schema))

    referenced : list_any (references dimension) (fact_columns tables.schema) ≡ true
    referenced =
        let any = over.referenced dimension named in
        list_any-from_Any (references dimension) (fact_columns tables.schema) (
          any.0,
          any.1,
          any.2,
          any.3,
          ap (λ o. option_map_or (λ target. eqb target dimension) o false) any.4 ∙ eq-eqb dimension dimension refl,
        )

    foreign : foreign_key tables.schema dimension version.row ≡ Some key
    foreign = foreign-there tables.schema dimension version.row referenced

    place : ℕ
    place = key_number version dimension

    is_place : IsPlaceOf rows key version.begin place
    is_place = some-at (λ k. IsPlaceOf rows k version.begin place) (foreign_key tables.schema dimension version.row) key foreign
        (keyed.places dimension)

    entry : DimensionRow
    entry = get_or rows place (record { row = []; commit = 0 })

    row : (slice_get rows place ≡ Some entry) × (entry.commit ≤ snapshot) × (row_of_key rows snapshot key ≡ entry.row)
    row = key-row rows key version.begin place snapshot (record { row = []; commit = 0 }) low is_place

where-named : (is : Bool) (row other : List cell.Value) → (is ≡ true → row ≡ other)
    → cond {A = List cell.Value} is row [] ≡ cond {A = List cell.Value} is other []
where-named true row other same = same refl
where-named false row other same = refl

pub joined-by-key : (tables : KeyedStore) (query : Query) (snapshot : ℕ) (version : Version) → IsOver tables.schema query
    → HasKeyNumbers tables.schema tables.dimensions version → is_visible version.begin version.end snapshot ≡ true
    → joined (plain tables) query snapshot version.row ≡ joined_by_keys tables.dimensions query version
joined-by-key tables query snapshot version over keyed seen =
    let low = begun-by version.begin version.end snapshot seen in
    let same : (dimension : ℕ) → cond {A = List cell.Value} (names query dimension) (joined_row (plain tables) snapshot version.row dimension) []
    ≡ cond {A = List cell.Value} (names query dimension) (row_at_key tables.dimensions version dimension) [] =
    λ dimension. where-named (names query dimension) (joined_row (plain tables) snapshot version.row dimension)
    (row_at_key tables.dimensions version dimension) (row-by-key tables query snapshot dimension version over keyed low) in
    λ i. record {
      fact = version.row;
      dimensions = map (λ dimension. same dimension i) (range_with_len 0 (length query.choices));
    }
