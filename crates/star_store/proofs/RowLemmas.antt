-- Rows that are appended to a dimension, one after the other.
use Rattle.std.proofs.Common.{◌≡◌, ℕ, suc, ◌+◌, ◌<◌, ◌≤◌, false, ◌||◌, List, [], ◌∷◌, ◌++◌, length, get_or, Option, Some, None, IsSome, IfSome, is_some, refl, ap, sym, subst, ◌∙◌, arith}
use Rattle.std.specs.Prelude.{◌≢◌}
use Rattle.std.specs.List.{list_any}
use Rattle.std.specs.Option.{option_map_or}
use Rattle.std.proofs.lemmas.List.{length-append}
use Rattle.std.proofs.lemmas.List.Folds.{list_any_none}
use Rattle.star_values.specs.declared.value.Value as cell
use Rattle.star_plan.specs.Repeats.{repeats}
use Rattle.dimension_rows.specs.declared.dimension_row.DimensionRow.{DimensionRow}
use Rattle.dimension_rows.specs.Keys.{index_of, key_of}
use Rattle.query_meaning.specs.History.{rows_by}
use Rattle.star_store.specs.Loads.{is_taken, repeats_a_key, same_key}
use Rattle.star_store.proofs.KeyTestLemmas.{HaveKeys, free_by, other_keys}
use Rattle.star_plan.proofs.ListLemmas.{All-none, neither}

-- a key that no row has is not that of a row appended with another key
abbrev pub OthersLaw : Type 0
OthersLaw = (rows : List DimensionRow) (entry : DimensionRow) (key : cell.Value) → key_of entry.row ≢ Some key → index_of rows key ≡ None
    → index_of (rows ++ entry ∷ []) key ≡ None

still_free : (rows more_rows : List DimensionRow) (key : Option cell.Value) → ((k : cell.Value) → key ≡ Some k → index_of rows k ≡ None → index_of more_rows k ≡ None)
    → IfSome key (λ k. index_of rows k ≡ None) → option_map_or (λ k. is_some (index_of more_rows k)) key false ≡ false
still_free rows more_rows None law free = refl
still_free rows more_rows (Some key) law free = ap is_some (law key refl free)

-- with one row more, no key is repeated among the others
repeats_after : (law : OthersLaw) (rows : List DimensionRow) (entry : DimensionRow) (more : List (List cell.Value))
    → HaveKeys (entry.row ∷ more) → repeats_a_key rows (entry.row ∷ more) ≡ false → repeats_a_key (rows ++ entry ∷ []) more ≡ false
repeats_after law rows entry more keys e =
    let row = entry.row in
    let both = neither (repeats same_key (row ∷ more)) (list_any (is_taken rows) (row ∷ more)) e in
    let first = neither (list_any (same_key row) more) (repeats same_key more) both.0 in
    let second = neither (is_taken rows row) (list_any (is_taken rows) more) both.1 in
    let free : list_any (is_taken (rows ++ entry ∷ [])) more ≡ false =
    list_any_none (is_taken (rows ++ entry ∷ [])) more
    (λ k d low.
    still_free rows (rows ++ entry ∷ []) (key_of (get_or more k d))
    (λ key is none. law rows entry key
    (λ same. other_keys row (get_or more k d) (keys 0 row (omega arith)) (All-none (same_key row) more first.0 k d low) (same ∙ sym is)) none)
    (free_by rows (key_of (get_or more k d)) (All-none (is_taken rows) more second.1 k d low))) in
    ap (λ t. t || list_any (is_taken (rows ++ entry ∷ [])) more) first.1 ∙ free

-- the rows that were appended, and those that are left, are all; and what is left has room and keys, none of them repeated
pub record AreAppendedTo (commit most : ℕ) (rows now : List DimensionRow) (new left : List (List cell.Value)) (room : ℕ) : Type 0 where
  pub all : now ++ rows_by commit left ≡ rows ++ rows_by commit new
  pub few : length now + length left ≤ most
  pub enough : length left ≤ room
  pub keys : HaveKeys left
  pub fresh : repeats_a_key now left ≡ false

pub AreAppendedTo-start : (commit most : ℕ) (rows : List DimensionRow) (new left : List (List cell.Value)) (room : ℕ)
    → left ≡ new → length rows + length new ≤ most → length new ≤ room → HaveKeys new → repeats_a_key rows new ≡ false
    → AreAppendedTo commit most rows rows new left room
AreAppendedTo-start commit most rows new left room same few enough keys fresh = record {
  all = ap (λ ls. rows ++ rows_by commit ls) same;
  few = let len = ap length same in omega arith;
  enough = let len = ap length same in omega arith;
  keys = subst HaveKeys (sym same) keys;
  fresh = ap (repeats_a_key rows) same ∙ fresh;
}

-- the next row may be appended
pub AreAppendedTo-may : (commit most : ℕ) (rows now : List DimensionRow) (new left more : List (List cell.Value)) (row : List cell.Value) (room : ℕ)
    → AreAppendedTo commit most rows now new left room → left ≡ row ∷ more
    → (length now < most) × (0 < room) × IsSome (key_of row) × IfSome (key_of row) (λ key. index_of now key ≡ None)
AreAppendedTo-may commit most rows now new left more row room is next =
    let len = ap length next in
    let few = is.few in
    let enough = is.enough in
    let fresh = sym (ap (repeats_a_key now) next) ∙ is.fresh in
    let free = neither (repeats same_key (row ∷ more)) (list_any (is_taken now) (row ∷ more)) fresh in (
      omega arith,
      omega arith,
      subst HaveKeys next is.keys 0 row (omega arith),
      free_by now (key_of row) (neither (is_taken now row) (list_any (is_taken now) more) free.1).0,
    )

-- one row more
pub AreAppendedTo-next : (commit most : ℕ) (rows now : List DimensionRow) (new left more : List (List cell.Value)) (row : List cell.Value) (room less : ℕ)
    → OthersLaw → AreAppendedTo commit most rows now new left room → left ≡ row ∷ more → less + 1 ≡ room
    → AreAppendedTo commit most rows (now ++ record { row = row; commit = commit } ∷ []) new more less
AreAppendedTo-next commit most rows now new left more row room less law is next one =
    let keys = subst HaveKeys next is.keys in
    let fresh = sym (ap (repeats_a_key now) next) ∙ is.fresh in
    let len = ap length next in record {
      all =
          moved now ∙ ap (λ ls. now ++ rows_by commit ls) (sym next) ∙ is.all;
      few =
          let behind : length (now ++ entry ∷ []) ≡ length now + 1 = length-append now (entry ∷ []) in
          let few = is.few in omega arith;
      enough = let enough = is.enough in omega arith;
      keys = λ k d low. keys (suc k) d (omega arith);
      fresh = repeats_after law now entry more keys fresh;
    }
  where
    entry : DimensionRow
    entry = record { row = row; commit = commit }

    moved : (before : List DimensionRow) → (before ++ entry ∷ []) ++ rows_by commit more ≡ before ++ rows_by commit (row ∷ more)
    moved [] = refl
    moved (first ∷ before) = ap (λ xs. first ∷ xs) (moved before)
