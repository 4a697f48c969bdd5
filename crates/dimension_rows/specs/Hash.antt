-- The numbers by which keys are looked up.
use Rattle.std.specs.Prelude.{ℕ, List, map, Option, Some, None}
use Rattle.std.specs.Int.{w64, cast_unsigned}
use Rattle.std.specs.RandomState.{initial_hasher}
use Rattle.std.specs.declared.random_state.RandomState.{RandomState}
use Rattle.std.specs.Hash.DefaultHasher as sip
use Rattle.star_values.specs.declared.value.Value.{Value}
use Rattle.star_values.specs.declared.value.Value.TheVariants.{Int, Str}
use Rattle.dimension_rows.specs.declared.dimension_row.DimensionRow.{DimensionRow}
use Rattle.dimension_rows.specs.Keys.{key_of}

-- the hash of a text: SipHash-1-3 over its bytes, by keys that are drawn at random
abbrev pub text_hash : RandomState → List ℕ → ℕ
text_hash hash_keys text = sip.finish (sip.write (initial_hasher hash_keys) text)

-- the number of a key, below 2 ^ 64: the 64 bits of an integer, and the hash of a text
unfoldable pub hash_of : RandomState → Value → ℕ
hash_of hash_keys (Int n) = cast_unsigned w64 n
hash_of hash_keys (Str text) = text_hash hash_keys text

-- the number of a key that may be missing
abbrev pub hash_of_key : RandomState → Option Value → ℕ
hash_of_key hash_keys None = 0
hash_of_key hash_keys (Some key) = hash_of hash_keys key

-- the numbers of the keys of rows
abbrev pub hashes_of : RandomState → List DimensionRow → List ℕ
hashes_of hash_keys rows = map (λ entry. hash_of_key hash_keys (key_of entry.row)) rows
