-- The references to the tables of present versions: one for each seat, which is kept or
-- in the hand of the seat.
use Rattle.std.specs.Prelude.{◌≡◌, ◌⊎◌, ℕ, ◌<◌, ◌==◌, false, List, [], Contains, find, length, slice_index_or, Option, Some}
use Rattle.std.specs.Option.{option_map_or}
use Rattle.filter_order.specs.Filtered.{FilterVersion, version_at}
use Rattle.filter_order.specs.Spares.{spare_at, Spares}
use Rattle.core_parts.specs.InFlight.{Hand}
use Rattle.core_parts.specs.Lent.{Flight}

-- the versions in a hand, if there is one
abbrev pub versions_in : Option Hand → List FilterVersion
versions_in hand = option_map_or (λ held. held.versions) hand []

-- the versions in the hand of a seat
abbrev pub versions_held : List Flight → (seat : ℕ) → List FilterVersion
versions_held flights seat = option_map_or (λ flight. versions_in flight.hand)
    (find (λ flight. option_map_or (λ hand. hand.worker == seat) flight.hand false) flights) []

-- a seat has its reference to the table of the present version of a dimension: it is kept, or
-- the version is in its hand
abbrev pub HasReference : (dimension : ℕ) → FilterVersion → (seat : ℕ) → (held : List FilterVersion)
    → Spares → Type 0
HasReference dimension version seat held spares =
    (spare_at spares dimension seat ≡ Some version.filter) ⊎ Contains held version

-- for each of so many seats there is a place, and each, which has these versions in
-- its hand, has its reference
pub record IsSpare (seats dimension : ℕ) (version : FilterVersion)
    (held : (seat : ℕ) → List FilterVersion) (spares : Spares) : Type 0 where
  pub listed : dimension < length spares
  pub many : length (slice_index_or spares dimension []) ≡ seats
  pub each : (seat : ℕ) → seat < seats → HasReference dimension version seat (held seat) spares

-- so it is with the present version of every filter
pub record AreSpareBy (seats : ℕ) (versions : List FilterVersion)
    (held : (seat : ℕ) → List FilterVersion) (spares : Spares) : Type 0 where
  pub present : (dimension : ℕ) (version : FilterVersion)
      → version_at versions dimension ≡ Some version
      → IsSpare seats dimension version held spares

-- where the hands are those of the batches in flight
abbrev pub AreSpare : (seats : ℕ) → (versions : List FilterVersion) → List Flight → Spares → Type 0
AreSpare seats versions flights spares = AreSpareBy seats versions (versions_held flights) spares
