-- Groups at a slot, and those that seats have there of their own, of rows that they folded apart.
use Rattle.std.specs.Prelude.{◌≡◌, ◌≢◌, ◌⊎◌, ◌+◌, ◌^◌, ◌≤◌, ℕ, Bool, true, false, List, [], All, IsTrue, IfSome, IsSome, Option, None, Some, fold, length, option_map, slice_index_or, take, if◌then◌else◌, ⊤}
use Rattle.std.specs.Option.{option_map_or}
use Rattle.std.specs.List.{list_any}
use Rattle.star_values.specs.declared.value.Value as cell
use Rattle.star_plan.specs.declared.place.Place.{Place}
use Rattle.aggregations.specs.Absorbing.{absorbed, with_all, without_rows}
use Rattle.aggregations.specs.Folding.{has_key}
use Rattle.aggregations.specs.Grouped.{AreOfItems, Grouped}
use Rattle.aggregations.specs.Homes.{keys_in}
use Rattle.distributor.specs.Slots.{HaveRoom}
use Rattle.aggregations.specs.Taken.{AreKnown, HasFirst, HasKeys, HasKeysOf, HaveNoTexts, with_keys_of}

-- what there is at a slot
abbrev pub at_slot : (slot : ℕ) → List (Option Grouped) → Option Grouped
at_slot slot attached = slice_index_or attached slot None

-- rows may be folded apart, and taken in at any time
pub record MayFoldApart : Type 0 where
  pub absorbed : (rows : List (Place → cell.Value)) (other groups : Grouped) → AreOfItems groups
      → other ≡ with_all rows (without_rows groups) → absorbed other groups ≡ with_all rows groups
  pub swap : (rows more : List (Place → cell.Value)) (groups : Grouped) → AreKnown rows groups
      → with_all rows (with_all more groups) ≡ with_all more (with_all rows groups)
  pub first : (rows : List (Place → cell.Value)) (from : ℕ) (groups : Grouped) → HasFirst groups
      → HasKeys (take from (keys_in (with_all rows (without_rows groups)).groups)) groups.groups
      → (with_all rows (with_keys_of from (with_all rows (without_rows groups)) groups)
      ≡ with_all rows groups)
      × AreKnown rows (with_keys_of from (with_all rows (without_rows groups)) groups)
  pub known : (rows : List (Place → cell.Value)) (groups : Grouped) → HasFirst groups
      → AreKnown rows groups
      → HasKeysOf (with_all rows (without_rows groups)) groups

-- groups of a seat have rows that were folded apart, all of whose groups are at home, and no texts:
-- so that they may be taken in without memory
pub record IsApart (home own : Grouped) : Type 0 where
  pub rows : List (Place → cell.Value)
  pub folded : own ≡ with_all rows (without_rows home)
  pub known : AreKnown rows home
  pub keys : HasKeysOf own home
  pub plain : HaveNoTexts own

-- what a seat has at a slot of its own, if both have groups
abbrev pub IsPart : (home own : Option Grouped) → Type 0
IsPart None own = ⊤
IsPart (Some home) None = ⊤
IsPart (Some home) (Some own) = IsApart home own

-- groups at home with those of a seat
abbrev pub with_own : Option Grouped → Grouped → Grouped
with_own None home = home
with_own (Some own) home = absorbed own home

-- groups at home with those of all seats
abbrev pub with_owns : List (Option Grouped) → Grouped → Grouped
with_owns owns home = fold (λ before own. with_own own before) home owns

-- what is seen of a slot, where each seat has groups of its own, or none
abbrev pub seen_with : List (Option Grouped) → Option Grouped → Option Grouped
seen_with owns home = option_map (with_owns owns) home

-- groups of one query, of which the later have each group that the others have
pub record HasGrown (old new : Grouped) : Type 0 where
  pub places : new.places ≡ old.places
  pub items : new.items ≡ old.items
  pub shaped : AreOfItems old → AreOfItems new
  pub keys : (key : List cell.Value) → IsTrue (list_any (has_key key) old.groups)
      → IsTrue (list_any (has_key key) new.groups)

-- what a slot has at home later: such groups, or nothing
abbrev pub IsLater : (old new : Option Grouped) → Type 0
IsLater old None = ⊤
IsLater None (Some new) = ⊥
IsLater (Some old) (Some new) = HasGrown old new

-- what is known of a slot at home, and of what all seats have there
pub record IsSlot (home : Option Grouped) (owns : List (Option Grouped)) : Type 0 where
  pub shaped : IfSome home AreOfItems
  pub parts : All (IsPart home) owns
  pub room : HaveRoom 0 (seen_with owns home)

-- what a seat has at a slot, and what is at home there, have changed: what is seen
-- of them has some rows more
pub record HasMoved (rows : List (Place → cell.Value))
    (home own later kept : Option Grouped) : Type 0 where
  pub seen : option_map (with_own kept) later
      ≡ option_map (with_all rows) (option_map (with_own own) home)
  pub grown : IsLater home later
  pub part : IsPart later kept

-- groups at home and those of one seat at a slot: there is room for the rows of both
pub record IsPair (home own : Option Grouped) : Type 0 where
  pub part : IsPart home own
  pub shaped : IfSome home AreOfItems
  pub room : HaveRoom 0 (option_map (with_own own) home)

-- all slots but one have what they had
pub record LeavesOthers (slot : ℕ) (old new : List (Option Grouped)) : Type 0 where
  pub long : length new ≡ length old
  pub others : (other : ℕ) → other ≢ slot → at_slot other new ≡ at_slot other old

-- home has taken in what a seat had at a slot, so that nothing is left there, and at all other
-- slots has what it had
pub record ComesFrom (own : Option Grouped) (slot : ℕ) (home later : List (Option Grouped))
    : Type 0 where
  pub moved : HasMoved [] (at_slot slot home) own (at_slot slot later) None
  pub others : LeavesOthers slot home later

-- a seat has groups at a slot exactly where these are wanted, and there are some at home
pub record IsLentAsWanted (wanted : Bool) (home own : Option Grouped) : Type 0 where
  pub there : IsTrue wanted → IsSome home → IsSome own
  pub inside : IsSome own → IsTrue wanted × IsSome home

-- what went out comes back with rows more, unless it was lost
pub record IsFoldedBy (is_lost : Bool) (rows : List (Place → cell.Value))
    (home out own : Option Grouped) : Type 0 where
  pub folded : own ≡ (if is_lost then None else option_map (with_all rows) out)
  pub none : IsSome home → out ≡ None → rows ≡ []

-- how many groups there are, if there are some
abbrev pub count_in : Option Grouped → ℕ
count_in attached = option_map_or (λ groups. length groups.groups) attached 0

-- what a seat brings back may be taken in: of what went out it is known how many groups it had
pub record MayLand (is_lost : Bool) (count : ℕ) (home out own : Option Grouped) : Type 0 where
  pub part : IsPart home out
  pub shaped : IfSome home AreOfItems
  pub counted : count ≡ count_in out
  pub rows : (rows : List (Place → cell.Value)) × IsFoldedBy is_lost rows home out own
  pub room : IfSome home (λ groups. IfSome own (λ its. groups.rows + its.rows ≤ 2 ^ 32))

-- it was taken in, or the slot is spoiled: then it was lost, or has some row
pub record HasLanded (is_lost spoiled : Bool)
    (home out own later kept : Option Grouped) : Type 0 where
  pub moves : spoiled ≡ false → (rows : List (Place → cell.Value))
      → IsFoldedBy is_lost rows home out own
      → HasMoved rows home out later kept
  pub spoils : spoiled ≡ true → (later ≡ None) × IsSome home
      × ((rows : List (Place → cell.Value)) → IsFoldedBy is_lost rows home out own
      → IsTrue is_lost ⊎ (rows ≢ []))

-- groups of a seat that have texts, or may have, were taken in, and others stay with it
pub record HasSettled (is_err : Bool) (home own later kept : Option Grouped) : Type 0 where
  pub ok : is_err ≡ false → ((later ≡ home) × (kept ≡ own) × IfSome own HaveNoTexts)
      ⊎ (IsSome own × (kept ≡ None)
      × ((rows : List (Place → cell.Value)) (groups : Grouped) → home ≡ Some groups
      → own ≡ Some (with_all rows (without_rows groups)) → later ≡ Some (with_all rows groups)))
  pub err : is_err ≡ true
      → (later ≡ None) × IsSome own × ((groups its : Grouped) → home ≡ Some groups → own ≡ Some its
      → HasKeysOf its groups → HaveNoTexts its → ⊥)
