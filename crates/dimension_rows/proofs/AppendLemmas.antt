-- Rows with one more behind them.
use Rattle.std.proofs.Common.{◌≡◌, ℕ, zero, suc, ◌<◌, List, [], ◌∷◌, ◌++◌, length, Option, Some, None, IsSome, refl, sym, ap, ◌∙◌, inl, inr, ⊎_elim, ◌⊎◌, arith}
use Rattle.star_values.specs.declared.value.Value.{Value}
use Rattle.dimension_rows.specs.declared.dimension_row.DimensionRow.{DimensionRow}
use Rattle.dimension_rows.specs.Keys.{AreKeyed, key_of, index_of, key_at}
use Rattle.dimension_rows.proofs.KeyLemmas.{key_at-within, index_of-first, index_of-missing, there-index_of, missing-index_of}

-- a row before keeps its key
pub key_at-before : (rows : List DimensionRow) (entry : DimensionRow) (place : ℕ) → place < length rows
    → key_at (rows ++ entry ∷ []) place ≡ key_at rows place
key_at-before [] entry place low = absurd (omega arith)
key_at-before (first ∷ rows) entry zero low = refl
key_at-before (first ∷ rows) entry (suc place) low = key_at-before rows entry place (omega arith)

-- the row behind all others
pub key_at-last : (rows : List DimensionRow) (entry : DimensionRow) → key_at (rows ++ entry ∷ []) (length rows) ≡ key_of entry.row
key_at-last [] entry = refl
key_at-last (first ∷ rows) entry = key_at-last rows entry

-- a key is that of a row before, or of the last one
pub key_at-cases : (rows : List DimensionRow) (entry : DimensionRow) (key : Value) (place : ℕ)
    → key_at (rows ++ entry ∷ []) place ≡ Some key
    → (key_at rows place ≡ Some key) ⊎ ((place ≡ length rows) × (key_of entry.row ≡ Some key))
key_at-cases [] entry key zero h = inr (refl, h)
key_at-cases [] entry key (suc place) h = cc
key_at-cases (first ∷ rows) entry key zero h = inl h
key_at-cases (first ∷ rows) entry key (suc place) h =
    ⊎_elim (λ before. inl before) (λ last. inr (ap suc last.0, last.1)) (key_at-cases rows entry key place h)

pub index_of-kept : (rows : List DimensionRow) (entry : DimensionRow) (key : Value) (place : ℕ) → index_of rows key ≡ Some place
    → index_of (rows ++ entry ∷ []) key ≡ Some place
index_of-kept rows entry key place e =
    let found = there-index_of rows key place e in
    let low = key_at-within rows key place found.0 in
    index_of-first (rows ++ entry ∷ []) key place (key_at-before rows entry place low ∙ found.0)
    (λ k early h. found.1 k early (sym (key_at-before rows entry k (omega arith)) ∙ h))

pub index_of-last : (rows : List DimensionRow) (entry : DimensionRow) (key : Value) → key_of entry.row ≡ Some key → index_of rows key ≡ None
    → index_of (rows ++ entry ∷ []) key ≡ Some (length rows)
index_of-last rows entry key has missing =
    index_of-first (rows ++ entry ∷ []) key (length rows) (key_at-last rows entry ∙ has)
    (λ k early h. missing-index_of rows key missing k (sym (key_at-before rows entry k early) ∙ h))

pub index_of-others : (rows : List DimensionRow) (entry : DimensionRow) (key : Value) → (key_of entry.row ≡ Some key → ⊥) → index_of rows key ≡ None
    → index_of (rows ++ entry ∷ []) key ≡ None
index_of-others rows entry key other missing =
    index_of-missing (rows ++ entry ∷ []) key (λ place _ h.
    ⊎_elim (λ before. missing-index_of rows key missing place before) (λ last. other last.1) (key_at-cases rows entry key place h))

each-append : (rows : List DimensionRow) (entry : DimensionRow) → ((place : ℕ) → place < length rows → IsSome (key_at rows place))
    → IsSome (key_of entry.row) → (place : ℕ) → place < length (rows ++ entry ∷ []) → IsSome (key_at (rows ++ entry ∷ []) place)
each-append [] entry each has zero low = has
each-append [] entry each has (suc place) low = absurd (omega arith)
each-append (first ∷ rows) entry each has zero low = each zero (omega arith)
each-append (first ∷ rows) entry each has (suc place) low =
    each-append rows entry (λ k within. each (suc k) (omega arith)) has place (omega arith)

-- two places of one key, where the last row's key is new
once_by : (rows : List DimensionRow) (entry : DimensionRow) (own key : Value) (i j : ℕ) → AreKeyed rows
    → key_of entry.row ≡ Some own → index_of rows own ≡ None
    → (key_at rows i ≡ Some key) ⊎ ((i ≡ length rows) × (key_of entry.row ≡ Some key))
    → (key_at rows j ≡ Some key) ⊎ ((j ≡ length rows) × (key_of entry.row ≡ Some key))
    → i ≡ j
once_by rows entry own key i j keyed has missing (inl p) (inl q) = keyed.once key i j p q
once_by rows entry own key i j keyed has missing (inl p) (inr q) =
    absurd (missing-index_of rows own missing i (p ∙ sym q.1 ∙ has))
once_by rows entry own key i j keyed has missing (inr p) (inl q) =
    absurd (missing-index_of rows own missing j (q ∙ sym p.1 ∙ has))
once_by rows entry own key i j keyed has missing (inr p) (inr q) = p.0 ∙ sym q.0

some : {X : Type 0} (o : Option X) (x : X) → o ≡ Some x → IsSome o
some None x e = cc
some (Some y) x e = refl

pub AreKeyed-append : (rows : List DimensionRow) (entry : DimensionRow) (key : Value) → AreKeyed rows → key_of entry.row ≡ Some key
    → index_of rows key ≡ None → AreKeyed (rows ++ entry ∷ [])
AreKeyed-append rows entry own keyed has missing = record {
  each = each-append rows entry keyed.each (some (key_of entry.row) own has);
  once = λ key i j p q. once_by rows entry own key i j keyed has missing (key_at-cases rows entry key i p) (key_at-cases rows entry key j q);
}
