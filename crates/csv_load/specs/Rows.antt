-- Which rows the records of a block are, where its fields have values of the wanted kinds.
use Rattle.std.specs.Prelude.{ℕ, List, [], ◌∷◌, Option, Some, None, option_map, if◌then◌else◌}
use Rattle.std.specs.Option.{option_and_then}
use Rattle.star_values.specs.Integer.{integer_in}
use Rattle.star_values.specs.SmallText.{is_small_text}
use Rattle.star_values.specs.declared.value.Kind.{Kind}
use Rattle.star_values.specs.declared.value.Kind.TheVariants as kind
use Rattle.star_values.specs.declared.value.Value.{Value}
use Rattle.star_values.specs.declared.value.Value.TheVariants.{Int, Str}

-- the value of a kind that a field writes: the integer, or the text that a table may hold
abbrev pub field_value : Kind → List ℕ → Option Value
field_value kind.Int field = option_map Int (integer_in field)
field_value kind.Text field = if is_small_text field then Some (Str field) else None

-- the row of a record: as many fields as kinds, and each writes a value of its kind
abbrev pub typed_row : List Kind → List (List ℕ) → Option (List Value)
typed_row [] [] = Some []
typed_row [] (field ∷ fields) = None
typed_row (kind ∷ kinds) [] = None
typed_row (kind ∷ kinds) (field ∷ fields) =
    option_and_then (λ value. option_map (λ row. value ∷ row) (typed_row kinds fields))
    (field_value kind field)

-- the rows of records, where each record is a row
abbrev pub typed_rows : List Kind → List (List (List ℕ)) → Option (List (List Value))
typed_rows kinds [] = Some []
typed_rows kinds (fields ∷ records) =
    option_and_then (λ row. option_map (λ rows. row ∷ rows) (typed_rows kinds records))
    (typed_row kinds fields)
