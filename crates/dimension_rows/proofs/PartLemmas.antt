-- Rows and their index with one row more.
use Rattle.std.proofs.Common.{◌≡◌, ℕ, ◌<◌, cond, nat_eq, List, [], ◌∷◌, ◌++◌, length, length-append, Option, Some, None, IsSome, IfSome, refl, sym, ap, ◌∙◌, subst, arith}
use Rattle.std.proofs.lemmas.List.{length-map, map-append}
use Rattle.std.specs.declared.random_state.RandomState.{RandomState}
use Rattle.star_values.specs.declared.value.Value.{Value}
use Rattle.dimension_rows.specs.declared.dimension_row.DimensionRow.{DimensionRow}
use Rattle.dimension_rows.specs.declared.dimension_row.TheConstants.{MAX_DIMENSION_ROWS}
use Rattle.dimension_rows.specs.Keys.{AreKeyed, key_of, index_of}
use Rattle.dimension_rows.specs.Hash.{hash_of_key, hashes_of}
use Rattle.dimension_rows.specs.Links.{AreLinked, AreNewest}
use Rattle.dimension_rows.specs.Parts.{AreIndexed}
use Rattle.dimension_rows.proofs.AppendLemmas.{AreKeyed-append}
use Rattle.dimension_rows.proofs.LinkLemmas.{AreLinked-append, AreNewest-append}

keyed_by : (rows : List DimensionRow) (entry : DimensionRow) (own : Option Value) → key_of entry.row ≡ own → AreKeyed rows → IsSome own
    → IfSome own (λ key. index_of rows key ≡ None) → AreKeyed (rows ++ entry ∷ [])
keyed_by rows entry None is keyed has fresh = cc
keyed_by rows entry (Some key) is keyed has fresh = AreKeyed-append rows entry key keyed is fresh

-- the hashes of rows with one more
hashes_of-append : (hash_keys : RandomState) (rows : List DimensionRow) (entry : DimensionRow)
    → hashes_of hash_keys (rows ++ entry ∷ []) ≡ hashes_of hash_keys rows ++ hash_of_key hash_keys (key_of entry.row) ∷ []
hashes_of-append hash_keys rows entry = map-append (λ (entry : DimensionRow). hash_of_key hash_keys (key_of entry.row)) rows (entry ∷ [])

-- a row with a new key goes in with the link that its hash had, and its hash leads to it from then on
pub AreIndexed-append : (hash_keys : RandomState) (rows : List DimensionRow) (entry : DimensionRow) (older : List (Option ℕ)) (newest newer : ℕ → Option ℕ) (hash place : ℕ) (link : Option ℕ)
    → AreIndexed hash_keys rows older newest → length rows < MAX_DIMENSION_ROWS → IsSome (key_of entry.row)
    → IfSome (key_of entry.row) (λ key. index_of rows key ≡ None)
    → hash ≡ hash_of_key hash_keys (key_of entry.row) → place ≡ length rows → link ≡ newest hash
    → ((other : ℕ) → newer other ≡ cond (nat_eq hash other) (Some place) (newest other))
    → AreIndexed hash_keys (rows ++ entry ∷ []) (older ++ link ∷ []) newer
AreIndexed-append hash_keys rows entry older newest newer hash place link indexed few has fresh hashed placed linked updated =
    let many : length (hashes_of hash_keys rows) ≡ length rows = length-map rows (λ (entry : DimensionRow). hash_of_key hash_keys (key_of entry.row)) in
    let last = rw (← linked) at (indexed.newest_linked hash) in
    let all : hashes_of hash_keys rows ++ hash ∷ [] ≡ hashes_of hash_keys (rows ++ entry ∷ []) =
    ap (λ (h : ℕ). hashes_of hash_keys rows ++ h ∷ []) hashed ∙ sym (hashes_of-append hash_keys rows entry) in record {
      few = rw length-append (omega arith);
      keyed = keyed_by rows entry (key_of entry.row) refl indexed.keyed has fresh;
      linked = subst (λ (hashes : List ℕ). AreLinked hashes (older ++ link ∷ [])) all (AreLinked-append (hashes_of hash_keys rows) hash older link indexed.linked last);
      newest_linked = subst (λ (hashes : List ℕ). AreNewest hashes newer) all
          (AreNewest-append (hashes_of hash_keys rows) hash newest newer indexed.newest_linked
          (λ other. updated other ∙ ap (λ (k : ℕ). cond (nat_eq hash other) (Some k) (newest other)) (placed ∙ sym many)));
    }
