-- What it says of new rows that no key of theirs is repeated.
use Rattle.std.proofs.Common.{◌≡◌, ◌↔◌, ℕ, suc, Bool, true, false, ◌||◌, List, [], ◌∷◌, map, get_or, Option, Some, None, IsSome, IfSome, is_some, refl, ap, sym, ◌∙◌, arith, Bor}
use Rattle.std.specs.Prelude.{IsTrue}
use Rattle.std.specs.Cmp.{Equal-is}
use Rattle.std.specs.List.{All, AllPairs, list_any}
use Rattle.std.specs.Option.{option_map_or}
use Rattle.std.specs.Ordering.{eq_by_cmp}
use Rattle.std.proofs.lemmas.List.Elements.{All-cons, All-nil}
use Rattle.std.proofs.lemmas.List.Kept.{AllPairs-cons}
use Rattle.star_values.specs.declared.value.Value as cell
use Rattle.star_values.specs.OrderLaws.{value_cmp-equal}
use Rattle.star_values.specs.Value.{value_cmp}
use Rattle.star_plan.specs.Repeats.{repeats}
use Rattle.dimension_rows.specs.declared.dimension_row.DimensionRow.{DimensionRow}
use Rattle.dimension_rows.specs.Keys.{index_of, is_key, key_of}
use Rattle.star_plan.proofs.ListLemmas.{All-none, neither}
use Rattle.query_meaning.specs.Accepted.{HaveOtherKeys}
use Rattle.star_store.specs.Loads.{is_taken, repeats_a_key, same_key}

-- each row has a key
abbrev pub HaveKeys : List (List cell.Value) → Type 0
HaveKeys rows = All (λ row. IsSome (key_of row)) rows

found_key : (key : Option cell.Value) → IsSome key → (k : cell.Value) × (key ≡ Some k)
found_key None h = cc
found_key (Some k) h = (k, refl)

-- equal by order means the same
pub equal_itself : (x : cell.Value) → eq_by_cmp value_cmp x x ≡ true
equal_itself x = (Equal-is (value_cmp x x)).1 ((value_cmp-equal x x).1 refl)

one_key : (row other : List cell.Value) (key : cell.Value) → key_of row ≡ Some key → key_of other ≡ Some key → same_key row other ≡ true
one_key row other key e f =
    ap (λ found. option_map_or (λ k. is_key k (key_of other)) found false) e ∙ ap (is_key key) f ∙ equal_itself key

-- two rows that the test finds to have other keys have other keys
pub other_keys : (row other : List cell.Value) → IsSome (key_of row) → same_key row other ≡ false → HaveOtherKeys row other
other_keys row other has e same =
    let found = found_key (key_of row) has in
    let wrong : true ≡ false = sym (one_key row other found.0 found.1 (sym same ∙ found.1)) ∙ e in cc

keys_apart : (new : List (List cell.Value)) → HaveKeys new → repeats same_key new ≡ false → AllPairs HaveOtherKeys new
keys_apart [] keys e = λ i j d lt low. absurd (omega arith)
keys_apart (row ∷ new) keys e =
    let both = neither (list_any (same_key row) new) (repeats same_key new) e in
    AllPairs-cons HaveOtherKeys row new
    (λ k d low. other_keys row (get_or new k d) (keys 0 row (omega arith)) (All-none (same_key row) new both.0 k d low))
    (keys_apart new (λ k d low. keys (suc k) d (omega arith)) both.1)

none_by : (found : Option ℕ) → is_some found ≡ false → found ≡ None
none_by None e = refl
none_by (Some place) e = cc

-- a key that is not taken has no place
pub free_by : (rows : List DimensionRow) (key : Option cell.Value) → option_map_or (λ k. is_some (index_of rows k)) key false ≡ false
    → IfSome key (λ k. index_of rows k ≡ None)
free_by rows None e = tt
free_by rows (Some key) e = none_by (index_of rows key) e

-- no key stands twice among new rows where none is repeated
pub apart_unless_repeated : (rows : List DimensionRow) (new : List (List cell.Value)) → HaveKeys new → repeats_a_key rows new ≡ false → AllPairs HaveOtherKeys new
apart_unless_repeated rows new keys e = keys_apart new keys (neither (repeats same_key new) (list_any (is_taken rows) new) e).0

-- and none is a key of the dimension
pub new_unless_repeated : (rows : List DimensionRow) (new : List (List cell.Value)) → repeats_a_key rows new ≡ false
    → All (λ row. IfSome (key_of row) (λ key. index_of rows key ≡ None)) new
new_unless_repeated rows new e k d low =
    free_by rows (key_of (get_or new k d)) (All-none (is_taken rows) new (neither (repeats same_key new) (list_any (is_taken rows) new) e).1 k d low)

-- the keys of rows, read where they lie
abbrev AreKeysOf : List (Bor cell.Value) → List (List cell.Value) → Type 0
AreKeysOf keys rows = map (λ (key : Bor cell.Value). Some key.now) keys ≡ map key_of rows

alike : (s t : Bool) → (s ≡ true → t ≡ true) → (t ≡ true → s ≡ true) → s ≡ t
alike true t f g = sym (f refl)
alike false true f g = g refl
alike false false f g = refl

module _ (equal : cell.Value → cell.Value → Bool) (law : (x y : cell.Value) → IsTrue (equal x y) ↔ (x ≡ y)) where
  equal_by_order : (x y : cell.Value) → equal x y ≡ eq_by_cmp value_cmp y x
  equal_by_order x y =
      alike (equal x y) (eq_by_cmp value_cmp y x)
      (λ e. ap (eq_by_cmp value_cmp y) ((law x y).0 e) ∙ equal_itself y)
      (λ e. (law x y).1 (sym ((value_cmp-equal y x).0 ((Equal-is (value_cmp y x)).0 e))))

  abbrev equal_keys : Bor cell.Value → Bor cell.Value → Bool
  equal_keys key other = equal key.now other.now

  same_by_keys : (key other : Bor cell.Value) (row another : List cell.Value) → Some key.now ≡ key_of row → Some other.now ≡ key_of another
      → equal_keys key other ≡ same_key row another
  same_by_keys key other row another e f =
      equal_by_order key.now other.now ∙ ap (is_key key.now) f
      ∙ ap (λ found. option_map_or (λ k. is_key k (key_of another)) found false) e

  any_by_keys : (key : Bor cell.Value) (row : List cell.Value) (keys : List (Bor cell.Value)) (rows : List (List cell.Value)) → Some key.now ≡ key_of row
      → AreKeysOf keys rows → list_any (equal_keys key) keys ≡ list_any (same_key row) rows
  any_by_keys key row [] [] e f = refl
  any_by_keys key row [] (another ∷ rows) e f = cc
  any_by_keys key row (other ∷ keys) [] e f = cc
  any_by_keys key row (other ∷ keys) (another ∷ rows) e f =
      let first : Some other.now ≡ key_of another = cc in
      let rest : AreKeysOf keys rows = cc in
      ap (λ t. t || list_any (equal_keys key) keys) (same_by_keys key other row another e first)
      ∙ ap (λ t. same_key row another || t) (any_by_keys key row keys rows e rest)

  -- a key stands twice among rows where it does among their keys
  pub repeats_by_keys : (keys : List (Bor cell.Value)) (rows : List (List cell.Value)) → AreKeysOf keys rows → repeats equal_keys keys ≡ repeats same_key rows
  repeats_by_keys [] [] e = refl
  repeats_by_keys [] (row ∷ rows) e = cc
  repeats_by_keys (key ∷ keys) [] e = cc
  repeats_by_keys (key ∷ keys) (row ∷ rows) e =
      let first : Some key.now ≡ key_of row = cc in
      let rest : AreKeysOf keys rows = cc in
      ap (λ t. t || repeats equal_keys keys) (any_by_keys key row keys rows first rest)
      ∙ ap (λ t. list_any (same_key row) rows || t) (repeats_by_keys keys rows rest)
