-- The kind of a value, the order of values and of rows, and the text of a value.
use Rattle.std.specs.Prelude.{ℕ, List, [], ◌∷◌, ◌++◌, ◌==◌, if◌then◌else◌, flat_map, map}
use Rattle.std.specs.Fmt.{signed_decimal}
use Rattle.std.specs.Ordering.{nat_cmp, int_cmp}
use Rattle.std.specs.Cmp.Lexicographic.{slice_cmp}
use Rattle.std.specs.declared.cmp.Ordering.{Ordering}
use Rattle.std.specs.declared.cmp.Ordering.TheVariants.{Less, Greater}
use Rattle.star_values.specs.declared.value.Kind.{Kind}
use Rattle.star_values.specs.declared.value.Kind.TheVariants as kind
use Rattle.star_values.specs.declared.value.Value.{Value}
use Rattle.star_values.specs.declared.value.Value.TheVariants.{Int, Str}

-- whether a value is an integer or a text
abbrev pub kind_of : Value → Kind
kind_of (Int n) = kind.Int
kind_of (Str text) = kind.Text

-- the kinds of the values of a row, in their order
abbrev pub kinds_in : List Value → List Kind
kinds_in row = map kind_of row

-- integers by their value, texts by their bytes, and every integer before every text
abbrev pub value_cmp : Value → Value → Ordering
value_cmp (Int m) (Int n) = int_cmp m n
value_cmp (Int m) (Str t) = Less
value_cmp (Str s) (Int n) = Greater
value_cmp (Str s) (Str t) = slice_cmp nat_cmp s t

-- rows by their values: the first values that differ decide, and else a front comes first
abbrev pub row_cmp : List Value → List Value → Ordering
row_cmp = slice_cmp value_cmp

-- a byte as it stands between single quotes: a quote is doubled
abbrev pub quoted_byte : ℕ → List ℕ
quoted_byte byte = if byte == 39 then (39 ∷ 39 ∷ []) else (byte ∷ [])

-- a text in single quotes
abbrev pub quoted : List ℕ → List ℕ
quoted text = 39 ∷ flat_map quoted_byte text ++ 39 ∷ []

-- the text of a value: an integer in decimal, a text in single quotes
abbrev pub value_text : Value → List ℕ
value_text (Int n) = signed_decimal n
value_text (Str text) = quoted text
