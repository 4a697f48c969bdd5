-- The references to versions, of which that of a seat is taken or put back.
use Rattle.std.proofs.Common.{◌≡◌, ◌≢◌, ℕ, ◌<◌, ◌≤◌, ◌⊎◌, inl, inr, List, [], length, get_or, set, Option, Some, None, ap, sym, ◌∙◌, subst}
use Rattle.std.specs.List.{refill}
use Rattle.std.proofs.lemmas.Bool.{cases_eq, cases_lt}
use Rattle.std.proofs.lemmas.List.{get_or_default, get_or_past, get_or-set_other, get_or-set_same, length-set}
use Rattle.std.proofs.lemmas.Option.{none-some}
use Rattle.dimension_filter.specs.Filter.{Filter}
use Rattle.star_values.proofs.PlaceLemmas.{refill-all}
use Rattle.filter_order.specs.Spares.{HasPlace, spare_at, Spares, with_spare}

-- what is lent of a dimension is what is kept for it
pub lent-at : (spares lent : Spares) (dimension : ℕ) (found : List (Option Filter)) → dimension < length spares → lent ≡ spares
    → get_or lent dimension found ≡ get_or spares dimension []
lent-at spares lent dimension found low same =
    ap (λ (list : Spares). get_or list dimension found) same ∙ get_or_default spares dimension found [] low

-- the references that were lent, with this one for a seat of a dimension
pub written-at : (spares lent : Spares) (dimension seat : ℕ) (found one : List (Option Filter)) (spare : Option Filter)
    → dimension < length spares → lent ≡ spares → one ≡ set (get_or lent dimension found) seat spare
    → refill (length spares) spares (set lent dimension one) ≡ with_spare dimension seat spare spares
written-at spares lent dimension seat found one spare low same written =
    refill-all spares (set lent dimension one) (length-set lent dimension one ∙ ap (λ (list : Spares). length list) same)
    ∙ ap (λ (list : Spares). set list dimension one) same
    ∙ ap (set spares dimension)
    (written ∙ ap (λ (list : List (Option Filter)). set list seat spare) (lent-at spares lent dimension found low same))

-- a reference that is kept has a place
pub place-of : (dimension seat : ℕ) (table : Filter) (spares : Spares) → spare_at spares dimension seat ≡ Some table
    → HasPlace dimension seat spares
place-of dimension seat table spares kept = record { listed = listed (cases_lt dimension (length spares)); within = within }
  where
    within : seat < length (get_or spares dimension [])
    within = by_cases (cases_lt seat (length (get_or spares dimension [])))
      where
        by_cases : (seat < length (get_or spares dimension [])) ⊎ (length (get_or spares dimension []) ≤ seat)
            → seat < length (get_or spares dimension [])
        by_cases (inl low) = low
        by_cases (inr past) = absurd (none-some table (sym (get_or_past (get_or spares dimension []) seat None past) ∙ kept))

    listed : (dimension < length spares) ⊎ (length spares ≤ dimension) → dimension < length spares
    listed (inl low) = low
    listed (inr past) = absurd (none-some table
        (ap (λ (list : List (Option Filter)). get_or list seat None) (sym (get_or_past spares dimension [] past)) ∙ kept))

-- each seat of a dimension has its place after as before
pub places-stay : (dimension seat at : ℕ) (spare : Option Filter) (spares : Spares) → at < length spares
    → length (get_or (with_spare dimension seat spare spares) at []) ≡ length (get_or spares at [])
places-stay dimension seat at spare spares low = by_place (cases_eq at dimension)
  where
    here : length (get_or (with_spare at seat spare spares) at []) ≡ length (get_or spares at [])
    here = ap (λ (list : List (Option Filter)). length list)
        (get_or-set_same spares at (set (get_or spares at []) seat spare) [] low)
        ∙ length-set (get_or spares at []) seat spare

    by_place : (at ≡ dimension) ⊎ (at ≢ dimension)
        → length (get_or (with_spare dimension seat spare spares) at []) ≡ length (get_or spares at [])
    by_place (inl same) =
        subst (λ n. length (get_or (with_spare n seat spare spares) at []) ≡ length (get_or spares at [])) same here
    by_place (inr apart) = ap (λ (list : List (Option Filter)). length list)
        (get_or-set_other spares dimension at (set (get_or spares dimension []) seat spare) [] apart)

-- the reference of another seat, or of another dimension, stays
pub spare-apart : (dimension seat at other : ℕ) (spare : Option Filter) (spares : Spares) → at < length spares
    → (at ≡ dimension → other ≢ seat) → spare_at (with_spare dimension seat spare spares) at other ≡ spare_at spares at other
spare-apart dimension seat at other spare spares low apart = by_place (cases_eq at dimension)
  where
    by_place : (at ≡ dimension) ⊎ (at ≢ dimension) → spare_at (with_spare dimension seat spare spares) at other ≡ spare_at spares at other
    by_place (inl same) = subst (λ n. spare_at (with_spare n seat spare spares) at other ≡ spare_at spares at other) same
        (ap (λ (list : List (Option Filter)). get_or list other None)
        (get_or-set_same spares at (set (get_or spares at []) seat spare) [] low)
        ∙ get_or-set_other (get_or spares at []) seat other spare None (apart same))
    by_place (inr elsewhere) = ap (λ (list : List (Option Filter)). get_or list other None)
        (get_or-set_other spares dimension at (set (get_or spares dimension []) seat spare) [] elsewhere)

-- what was put for a seat is kept
pub spare-put : (dimension seat : ℕ) (spare : Option Filter) (spares : Spares) → HasPlace dimension seat spares
    → spare_at (with_spare dimension seat spare spares) dimension seat ≡ spare
spare-put dimension seat spare spares place =
    ap (λ (list : List (Option Filter)). get_or list seat None)
    (get_or-set_same spares dimension (set (get_or spares dimension []) seat spare) [] place.listed)
    ∙ get_or-set_same (get_or spares dimension []) seat spare None place.within
