-- What seats have of a shared distributor, and what is seen of it.
use Rattle.std.specs.Prelude.{◌≡◌, ◌≢◌, ℕ, ◌<◌, ◌≤◌, ◌==◌, List, [], All, IfSome, IsSome, Option, None, Some, length, map, slice_index, ⊤}
use Rattle.std.specs.Int.{bit_at}
use Rattle.std.specs.List.{range_with_len}
use Rattle.bit_words.specs.Sets.{Has}
use Rattle.bit_words.specs.declared.slots.TheConstants.{MAX_SLOTS}
use Rattle.aggregations.specs.Grouped.{Grouped}
use Rattle.shared_distributor.specs.declared.seats.LentGroups.{LentGroups}
use Rattle.shared_distributor.specs.declared.seats.SeatGroups.{SeatGroups}
use Rattle.shared_distributor.specs.declared.seats.SeatGroups.TheVariants.{NotYet, AtHome, Away}
use Rattle.shared_distributor.specs.Apart.{HasLanded, HasMoved, IsPair, IsSlot, MayLand, at_slot, count_in, seen_with}
use Rattle.shared_distributor.specs.Shared.{Lending}

-- the groups that a seat has of its own, at home or as they went out
abbrev pub own_in : SeatGroups → List (Option Grouped)
own_in NotYet = []
own_in (AtHome own) = own
own_in (Away lent) = lent.groups.value

-- what went out with a seat
abbrev pub lending_in : SeatGroups → Option Lending
lending_in NotYet = None
lending_in (AtHome own) = None
lending_in (Away lent) = Some (record { slots = lent.slots; groups = lent.groups.value })

-- what each seat has at a slot
abbrev pub owns_at : (slot : ℕ) → List SeatGroups → List (Option Grouped)
owns_at slot seats = map (λ seat. at_slot slot (own_in seat)) seats

-- what is seen of a slot
abbrev pub seen_at : List SeatGroups → (home : List (Option Grouped)) → (slot : ℕ) → Option Grouped
seen_at seats home slot = seen_with (owns_at slot seats) (at_slot slot home)

-- what is seen of all slots
abbrev pub seen_of : List SeatGroups → (home : List (Option Grouped)) → List (Option Grouped)
seen_of seats home = map (seen_at seats home) (range_with_len 0 (length home))

-- what went out has groups at each slot of its own that has some at home, and at no
-- others; and how many is known
pub record IsOut (home : List (Option Grouped)) (lent : LentGroups) : Type 0 where
  pub long : length lent.groups.value ≡ length home
  pub inside : (slot : ℕ) → IsSome (at_slot slot lent.groups.value) → Has lent.slots slot
  pub there : (slot : ℕ) → Has lent.slots slot → IsSome (at_slot slot home)
      → IsSome (at_slot slot lent.groups.value)
  pub counts : (slot : ℕ) → slot < length home
      → slice_index lent.counts slot ≡ count_in (at_slot slot lent.groups.value)

-- what a seat has is as wide as what is at home
abbrev pub IsSeat : List (Option Grouped) → SeatGroups → Type 0
IsSeat home NotYet = ⊤
IsSeat home (AtHome own) = length own ≡ length home
IsSeat home (Away lent) = IsOut home lent

-- what holds of a shared distributor
pub record AreShared (home : List (Option Grouped)) (all : List SeatGroups) : Type 0 where
  pub some : 1 ≤ length home
  pub few : length home ≤ MAX_SLOTS
  pub slots : (slot : ℕ) → IsSlot (at_slot slot home) (owns_at slot all)
  pub seats : All (IsSeat home) all

-- a seat has nothing at a slot any more, and is as it was else
pub record IsWithout (slot : ℕ) (old new : SeatGroups) : Type 0 where
  pub none : at_slot slot (own_in new) ≡ None
  pub others : (other : ℕ) → other ≢ slot → at_slot other (own_in new) ≡ at_slot other (own_in old)
  pub lending : lending_in new ≡ lending_in old
  pub seat : (home : List (Option Grouped)) → IsSeat home old → IsSeat home new

-- what a seat and home have at all slots has changed, and nothing that is seen
abbrev pub HaveMoved : (home own later kept : List (Option Grouped)) → Type 0
HaveMoved home own later kept = (slot : ℕ) → HasMoved [] (at_slot slot home) (at_slot slot own)
    (at_slot slot later) (at_slot slot kept)

-- at home there are as many slots as there were, and a seat has what fits them
pub record FitsHome (home later : List (Option Grouped)) (seat : SeatGroups) : Type 0 where
  pub long : length later ≡ length home
  pub fits : IsSeat later seat

-- a seat has nothing with it, and what it has at each slot may go out
pub record MayGoOut (home : List (Option Grouped)) (seat : SeatGroups) : Type 0 where
  pub none : lending_in seat ≡ None
  pub fits : IsSeat home seat
  pub pairs : (slot : ℕ) → IsPair (at_slot slot home) (at_slot slot (own_in seat))

-- groups for some slots go out with a seat, where there are some at home too; where there are none
-- to go out, the seat has nothing with it
pub record GoesOutWith (slots : ℕ) (own : Option (List (Option Grouped)))
    (home : List (Option Grouped)) (seat : SeatGroups) : Type 0 where
  pub out : IfSome own (λ its. lending_in seat ≡ Some (record { slots = slots; groups = its }))
  pub none : own ≡ None → lending_in seat ≡ None
  pub inside : IfSome own (λ its. (slot : ℕ) → IsSome (at_slot slot its)
      → IsSome (at_slot slot home))

-- what a seat had with it may come home, where some slots of it were lost
pub record MayComeHome (lost : ℕ) (own home : List (Option Grouped)) (seat : SeatGroups)
    : Type 0 where
  pub out : IsSome (lending_in seat)
  pub fits : IsSeat home seat
  pub long : length own ≡ length home
  pub each : (slot : ℕ) → slot < length home →
      MayLand (bit_at lost slot == 1) (count_in (at_slot slot (own_in seat)))
      (at_slot slot home) (at_slot slot (own_in seat)) (at_slot slot own)

-- at each slot it came home, or the slot is spoiled
pub record HaveLanded (lost spoiled : ℕ) (home out own later kept : List (Option Grouped))
    : Type 0 where
  pub each : (slot : ℕ) → slot < length home →
      HasLanded (bit_at lost slot == 1) (bit_at spoiled slot == 1) (at_slot slot home)
      (at_slot slot out) (at_slot slot own) (at_slot slot later) (at_slot slot kept)
  pub low : (slot : ℕ) → Has spoiled slot → slot < length home

-- what holds of a shared distributor, and what is out with its seats
pub record AreSharedWith (away : List (Option Lending)) (home : List (Option Grouped))
    (all : List SeatGroups) : Type 0 where
  pub out : map lending_in all ≡ away
  pub shared : AreShared home all
