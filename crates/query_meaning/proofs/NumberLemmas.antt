-- The key numbers of a version are those that its foreign keys give.
use Rattle.std.proofs.Common.{◌≡◌, ℕ, List, map, get_or, Option, Some, None, refl, ap, sym, ◌∙◌, arith}
use Rattle.std.specs.Prelude.{IfSome}
use Rattle.std.specs.List.{range_with_len}
use Rattle.std.specs.Option.{option_map_or}
use Rattle.std.proofs.lemmas.Grind.{same_number_lists}
use Rattle.std.proofs.lemmas.List.FromFn.{get_or-map-range_with_len, length-map-range_with_len}
use Rattle.star_values.specs.declared.value.Value as cell
use Rattle.star_plan.specs.declared.schema.Schema.{Schema}
use Rattle.fact_versions.specs.declared.version.TheConstants.{KEYS_IN_A_VERSION}
use Rattle.fact_versions.specs.declared.version.Version.{Version}
use Rattle.dimension_rows.specs.declared.dimension_row.DimensionRow.{DimensionRow}
use Rattle.dimension_rows.specs.Keys.{index_of}
use Rattle.query_meaning.specs.Alone.{foreign_key}
use Rattle.query_meaning.specs.Keyed.{HasKeyNumbers, number_by_key}
use Rattle.query_meaning.specs.Settled.{IsPlaceOf}
use Rattle.query_meaning.specs.Store.{rows_in}

-- the number for a foreign key, where there is one
number_at : (found : Option cell.Value) (rows : List DimensionRow) (commit number : ℕ) → IfSome found (λ key. IsPlaceOf rows key commit number)
    → (found ≡ None → number ≡ 0) → number ≡ option_map_or (λ key. option_map_or (λ place. place) (index_of rows key) 0) found 0
number_at None rows commit number is other = other refl
number_at (Some key) rows commit number is other = ap (λ found. option_map_or (λ place. place) found 0) (sym is.found)

-- all key numbers
pub numbers_found : (schema : Schema) (dimensions : List (List DimensionRow)) (version : Version) → HasKeyNumbers schema dimensions version
    → version.keys ≡ map (number_by_key schema dimensions version.row) (range_with_len 0 KEYS_IN_A_VERSION)
numbers_found schema dimensions version has =
    let number = number_by_key schema dimensions version.row in
    let count = has.count in
    same_number_lists version.keys (map number (range_with_len 0 KEYS_IN_A_VERSION))
    (count ∙ sym (length-map-range_with_len number 0 KEYS_IN_A_VERSION))
    (λ k low.
    number_at (foreign_key schema k version.row) (rows_in dimensions k) version.begin (get_or version.keys k 0) (has.places k) (has.others k)
    ∙ sym (get_or-map-range_with_len number 0 KEYS_IN_A_VERSION k k 0 (omega arith) (omega arith)))
