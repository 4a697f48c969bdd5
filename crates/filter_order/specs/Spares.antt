-- References to the tables of the present versions of filters, which are made
-- ahead: one for each seat.
use Rattle.std.specs.Prelude.{◌≡◌, ◌≢◌, AllPairs, ℕ, ◌<◌, ◌==◌, Bool, false, if◌then◌else◌, List, [], ◌∷◌, fold, length, map, replicate, slice_index_or, slice_set, Option, Some, None}
use Rattle.std.specs.Option.{option_map_or}
use Rattle.dimension_filter.specs.Filter.{Filter}
use Rattle.filter_order.specs.Filtered.{FilterVersion, version_at}

-- for each dimension, and there for each seat, the table that its reference is to, while it is kept
abbrev pub Spares : Type 0
Spares = List (List (Option Filter))

-- what is kept for a seat of a dimension
abbrev pub spare_at : Spares → (dimension seat : ℕ) → Option Filter
spare_at spares dimension seat = slice_index_or (slice_index_or spares dimension []) seat None

-- the references with this one for a seat of a dimension
abbrev pub with_spare : (dimension seat : ℕ) → Option Filter → Spares → Spares
with_spare dimension seat spare spares =
    slice_set spares dimension (slice_set (slice_index_or spares dimension []) seat spare)

-- a reference for each of so many seats to the table of a version
abbrev pub references_to : (seats : ℕ) → FilterVersion → List (Option Filter)
references_to seats version = replicate seats (Some version.filter)

-- the references to the tables of these versions, each at its place
abbrev pub first_spares : (seats : ℕ) → List FilterVersion → Spares
first_spares seats versions = map (references_to seats) versions

-- there is a place for the reference of a seat to a table of a dimension
pub record HasPlace (dimension seat : ℕ) (spares : Spares) : Type 0 where
  pub listed : dimension < length spares
  pub within : seat < length (slice_index_or spares dimension [])

-- whether a version is the present one of its filter: that one has its number
abbrev pub is_present : List FilterVersion → FilterVersion → Bool
is_present versions version =
    option_map_or (λ present. present.number == version.number)
    (version_at versions version.filter.dimension) false

-- the references once a seat gave a version back, which is the present one or is not
abbrev pub with_returned : (seat : ℕ) → FilterVersion → (present : Bool) → Spares → Spares
with_returned seat version present spares =
    if present then with_spare version.filter.dimension seat (Some version.filter) spares
    else spares

-- versions of different filters
abbrev pub AreApart : List FilterVersion → Type 0
AreApart versions =
    AllPairs (λ version other. version.filter.dimension ≢ other.filter.dimension) versions

-- what is kept for a seat is the reference to the table of this version
abbrev pub IsSpareFor : (seat : ℕ) → Spares → FilterVersion → Type 0
IsSpareFor seat spares version = spare_at spares version.filter.dimension seat ≡ Some version.filter

-- the references once a seat took those to the tables of these versions
abbrev pub with_all_taken : (seat : ℕ) → List FilterVersion → Spares → Spares
with_all_taken seat versions spares =
    fold (λ before version. with_spare version.filter.dimension seat None before) spares versions

-- the references once a seat gave these versions back, the last one first, of which those are kept
-- that are present
abbrev pub with_all_returned : (seat : ℕ) → (present : List FilterVersion) → List FilterVersion →
    Spares → Spares
with_all_returned seat present [] spares = spares
with_all_returned seat present (version ∷ versions) spares =
    with_returned seat version (is_present present version)
    (with_all_returned seat present versions spares)
