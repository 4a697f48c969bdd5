-- Keys of rows, and the first place of a key.
use Rattle.std.proofs.Common.{◌≡◌, ℕ, zero, suc, ◌<◌, ◌≤◌, Bool, true, false, nat_lt, List, [], ◌∷◌, length, get_or, slice_get, Option, Some, None, refl, sym, ap, ◌∙◌, arith}
use Rattle.std.specs.Prelude.{position}
use Rattle.std.specs.List.{position_or_len}
use Rattle.std.specs.Bool.{Decides}
use Rattle.std.specs.Ordering.{eq_by_cmp}
use Rattle.std.specs.Cmp.{Equal-is}
use Rattle.std.proofs.lemmas.Bool.Decides.{nat_tests}
use Rattle.std.proofs.lemmas.List.Quantifiers.{position-Some}
use Rattle.std.proofs.lemmas.List.Sums.{position_or_len_is, fails_before_first}
use Rattle.star_values.specs.declared.value.Value.{Value}
use Rattle.star_values.specs.Value.{value_cmp}
use Rattle.star_values.specs.OrderLaws.{value_cmp-equal}
use Rattle.dimension_rows.specs.declared.dimension_row.DimensionRow.{DimensionRow}
use Rattle.dimension_rows.specs.Keys.{AreKeyed, key_of, is_key, has_key, index_of, key_at}

-- equal by order means the same
same_value : (x y : Value) → Decides (eq_by_cmp value_cmp x y) (x ≡ y)
same_value x y =
    let tied = Equal-is (value_cmp x y) in
    (λ e. (value_cmp-equal x y).0 (tied.0 e), λ e. tied.1 ((value_cmp-equal x y).1 e))

Decides-is_key : (key : Value) (o : Option Value) → Decides (is_key key o) (o ≡ Some key)
Decides-is_key key None = (λ e. cc, λ e. cc)
Decides-is_key key (Some other) =
    (λ e. ap Some ((same_value other key).0 e), λ e. (same_value other key).1 (cc))

-- a row has a key where its key is that
pub Decides-has_key : (key : Value) (entry : DimensionRow) → Decides (has_key key entry) (key_of entry.row ≡ Some key)
Decides-has_key key entry = Decides-is_key key (key_of entry.row)

-- a row that is not there
nothing : DimensionRow
nothing = record { row = []; commit = 0 }

-- where there is a row, its key is the key there
pub key_at-get_or : (rows : List DimensionRow) (place : ℕ) (d : DimensionRow) → place < length rows → key_at rows place ≡ key_of (get_or rows place d).row
key_at-get_or [] place d low = absurd (omega arith)
key_at-get_or (entry ∷ rows) zero d low = refl
key_at-get_or (entry ∷ rows) (suc place) d low = key_at-get_or rows place d (omega arith)

pub key_at-read : (rows : List DimensionRow) (place : ℕ) (entry : DimensionRow) → slice_get rows place ≡ Some entry
    → key_at rows place ≡ key_of entry.row
key_at-read [] place entry h = cc
key_at-read (first ∷ rows) zero entry h = cc
key_at-read (first ∷ rows) (suc place) entry h = key_at-read rows place entry h

-- where there is a key, there is a row
pub key_at-within : (rows : List DimensionRow) (key : Value) (place : ℕ) → key_at rows place ≡ Some key → place < length rows
key_at-within [] key place h = cc
key_at-within (entry ∷ rows) key zero h = omega arith
key_at-within (entry ∷ rows) key (suc place) h = let within = key_at-within rows key place h in omega arith

-- a row that passes the test has the key, and the other way round
pub key_at-from_test : (rows : List DimensionRow) (key : Value) (place : ℕ) (d : DimensionRow) → place < length rows
    → has_key key (get_or rows place d) ≡ true → key_at rows place ≡ Some key
key_at-from_test rows key place d low h = key_at-get_or rows place d low ∙ (Decides-has_key key (get_or rows place d)).0 h

pub test-from_key_at : (rows : List DimensionRow) (key : Value) (place : ℕ) (d : DimensionRow)
    → key_at rows place ≡ Some key → has_key key (get_or rows place d) ≡ true
test-from_key_at rows key place d h =
    let low = key_at-within rows key place h in
    (Decides-has_key key (get_or rows place d)).1 (sym (key_at-get_or rows place d low) ∙ h)

not_true : (b : Bool) → (b ≡ true → ⊥) → b ≡ false
not_true true h = absurd (h refl)
not_true false h = refl

false_not : (b : Bool) → b ≡ false → b ≡ true → ⊥
false_not true e f = cc
false_not false e f = cc

pub fails-from_key_at : (rows : List DimensionRow) (key : Value) (place : ℕ) (d : DimensionRow) → place < length rows
    → (key_at rows place ≡ Some key → ⊥) → has_key key (get_or rows place d) ≡ false
fails-from_key_at rows key place d low h = not_true _ (λ e. h (key_at-from_test rows key place d low e))

pub key_at-from_fails : (rows : List DimensionRow) (key : Value) (place : ℕ) (d : DimensionRow)
    → has_key key (get_or rows place d) ≡ false → key_at rows place ≡ Some key → ⊥
key_at-from_fails rows key place d e h = false_not _ e (test-from_key_at rows key place d h)

-- the first place of what passes is its position
position_at : {X : Type 0} (p : X → Bool) (xs : List X) (n : ℕ) → position_or_len p xs ≡ n → n < length xs → position p xs ≡ Some n
position_at p xs n e low = let yes_low : nat_lt n (length xs) ≡ true = grind (arith, nat_tests) in rw (e, yes_low)

position_past : {X : Type 0} (p : X → Bool) (xs : List X) → position_or_len p xs ≡ length xs → position p xs ≡ None
position_past p xs e = let over : nat_lt (length xs) (length xs) ≡ false = grind (arith, nat_tests) in rw (e, over)

-- the first place with the key is its place
pub index_of-first : (rows : List DimensionRow) (key : Value) (place : ℕ) → key_at rows place ≡ Some key
    → ((k : ℕ) → k < place → key_at rows k ≡ Some key → ⊥) → index_of rows key ≡ Some place
index_of-first rows key place there before =
    let low = key_at-within rows key place there in
    position_at (has_key key) rows place
    (position_or_len_is (has_key key) rows place nothing (omega arith)
    (λ k early. fails-from_key_at rows key k nothing (omega arith) (before k early))
    (λ _. test-from_key_at rows key place nothing there)) low

-- of distinct keys each has the place of its row
pub index_of-there : (rows : List DimensionRow) (key : Value) (place : ℕ) → AreKeyed rows → key_at rows place ≡ Some key
    → index_of rows key ≡ Some place
index_of-there rows key place keyed there =
    index_of-first rows key place there (λ k early h. let same = keyed.once key k place h there in omega arith)

-- a key that no row has, has no place
pub index_of-missing : (rows : List DimensionRow) (key : Value) → ((place : ℕ) → place < length rows → key_at rows place ≡ Some key → ⊥)
    → index_of rows key ≡ None
index_of-missing rows key none =
    position_past (has_key key) rows
    (position_or_len_is (has_key key) rows (length rows) nothing (omega arith)
    (λ k low. fails-from_key_at rows key k nothing low (none k low)) (λ over. absurd (omega arith)))

-- the row at the place of a key has the key, and no row before it has
pub there-index_of : (rows : List DimensionRow) (key : Value) (place : ℕ) → index_of rows key ≡ Some place
    → (key_at rows place ≡ Some key) × ((k : ℕ) → k < place → key_at rows k ≡ Some key → ⊥)
there-index_of rows key place e =
    let found = position-Some (has_key key) rows place nothing e in
    (key_at-from_test rows key place nothing found.0 found.1, λ k early. key_at-from_fails rows key k nothing (found.2 k early))

-- where a key has no place, no row has it
missing_by : (rows : List DimensionRow) (key : Value) (n : ℕ) (within : Bool) → position_or_len (has_key key) rows ≡ n
    → nat_lt n (length rows) ≡ within → index_of rows key ≡ None
    → (place : ℕ) → key_at rows place ≡ Some key → ⊥
missing_by rows key n true at low e place h =
    let found : index_of rows key ≡ Some n = position_at (has_key key) rows n at (grind (arith, nat_tests)) in (cc)
missing_by rows key n false at over e place h =
    let low = key_at-within rows key place h in
    let end : length rows ≤ n = grind (arith, nat_tests) in
    key_at-from_fails rows key place nothing (fails_before_first (has_key key) rows place nothing (rw at (omega arith))) h

pub missing-index_of : (rows : List DimensionRow) (key : Value) → index_of rows key ≡ None
    → (place : ℕ) → key_at rows place ≡ Some key → ⊥
missing-index_of rows key = missing_by rows key _ _ refl refl
