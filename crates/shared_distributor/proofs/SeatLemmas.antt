-- What is seen of all slots, as what one seat has changes, or what is at home.
use Rattle.std.proofs.Common.{◌≡◌, ℕ, ◌+◌, ◌^◌, ◌<◌, ◌≤◌, List, [], ◌∷◌, length, map, get_or, set, refl, ap, sym, subst, ◌∙◌, arith, inl, inr}
use Rattle.std.specs.Prelude.{All, Option, None, Some, option_map, IfSome, IsSome, IsSomeAnd, slice_get}
use Rattle.std.proofs.lemmas.Option.{get_or_from_slice_get, same_Some, slice_get-get_or, slice_get_within}
use Rattle.std.proofs.lemmas.Bool.{cases_eq, cases_lt}
use Rattle.std.proofs.lemmas.List.{get_or_past, get_or-map, get_or-set_other, get_or-set_same, length-map, length-set, map-set}
use Rattle.std.proofs.lemmas.List.Elements.{All-head, All-set, All-tail, All-weaker}
use Rattle.std.proofs.lemmas.List.FromFn.{fill_by_all, get_or-map-range_with_len, length-map-range_with_len}
use Rattle.star_values.specs.declared.value.Value as cell
use Rattle.star_plan.specs.declared.place.Place.{Place}
use Rattle.bit_words.specs.Sets.{Has}
use Rattle.aggregations.specs.Absorbing.{with_all}
use Rattle.aggregations.specs.Grouped.{AreOfItems, Grouped}
use Rattle.shared_distributor.specs.declared.seats.LentGroups.{LentGroups}
use Rattle.shared_distributor.specs.declared.seats.SeatGroups.{SeatGroups}
use Rattle.shared_distributor.specs.declared.seats.SeatGroups.TheVariants.{NotYet, AtHome, Away}
use Rattle.shared_distributor.specs.Apart.{HasMoved, IsLater, IsPair, IsPart, IsSlot, LeavesOthers, MayFoldApart, count_in, seen_with, with_own, with_owns}
use Rattle.shared_distributor.specs.Seats.{AreShared, HaveMoved, IsOut, IsSeat, IsWithout, lending_in, own_in, owns_at, seen_at, seen_of}
use Rattle.shared_distributor.specs.Shared.{IsAllIn, Lending}
use Rattle.distributor.specs.Slots.{HaveRoom}
use Rattle.shared_distributor.proofs.ComingLemmas.{moved-same}
use Rattle.shared_distributor.proofs.OwnLemmas.{rows-absorbed, rows-owns, rows-seat, seen-moved, slot-moved, slot-none}

-- What is seen.

pub length-seen : (seats : List SeatGroups) (home : List (Option Grouped)) → length (seen_of seats home) ≡ length home
length-seen seats home = length-map-range_with_len (seen_at seats home) 0 (length home)

pub seen-get : (seats : List SeatGroups) (home : List (Option Grouped)) (slot : ℕ) → get_or (seen_of seats home) slot None ≡ seen_at seats home slot
seen-get seats home slot = elim (cases_lt slot (length home)) [
  | inl within ↦ get_or-map-range_with_len (seen_at seats home) 0 (length home) slot slot None within (omega arith)
  | inr past ↦
      let long = length-seen seats home in
      get_or_past (seen_of seats home) slot None (omega arith)
      ∙ ap (seen_with (owns_at slot seats)) (sym (get_or_past home slot None past))
]

-- a list that has at each slot what is seen there
pub seen-is : (seats : List SeatGroups) (home seen : List (Option Grouped)) → length home ≡ length seen
    → ((slot : ℕ) → slot < length home → seen_at seats home slot ≡ get_or seen slot None) → seen_of seats home ≡ seen
seen-is seats home seen long each =
    sym (fill_by_all (seen_at seats home) seen (length home) None (sym long) (λ slot low. sym (each slot low)))

-- What each seat has.

pub owns-set : (slot k : ℕ) (seats : List SeatGroups) (seat : SeatGroups) → owns_at slot (set seats k seat) ≡ set (owns_at slot seats) k
    (get_or (own_in seat) slot None)
owns-set slot k seats seat = map-set (λ (one : SeatGroups). get_or (own_in one) slot None) seats k seat

pub owns-get : (slot k : ℕ) (seats : List SeatGroups) (d : SeatGroups) → k < length seats → get_or (owns_at slot seats) k None ≡ get_or
    (own_in (get_or seats k d)) slot None
owns-get slot k seats d low = get_or-map (λ (one : SeatGroups). get_or (own_in one) slot None) seats k d None low

pub length-owns : (slot : ℕ) (seats : List SeatGroups) → length (owns_at slot seats) ≡ length seats
length-owns slot seats = length-map seats (λ (one : SeatGroups). get_or (own_in one) slot None)

-- What is at home changes.

pub some_before : (home later : Option Grouped) → IsLater home later → IsSome later → IsSome home
some_before home None grown some = absurd (cc some)
some_before None (Some later) grown some = absurd grown
some_before (Some home) (Some later) grown some = refl

pub seat-later : (home later : List (Option Grouped)) → length later ≡ length home → ((slot : ℕ) → IsSome (get_or later slot None)
    → IsSome (get_or home slot None))
    → (seat : SeatGroups) → IsSeat home seat → IsSeat later seat
seat-later home later long some NotYet is = tt
seat-later home later long some (AtHome own) is = is ∙ sym long
seat-later home later long some (Away lent) is = record {
  long = is.long ∙ sym long;
  inside = is.inside;
  there = λ slot has here. is.there slot has (some slot here);
  counts = λ slot low. is.counts slot (omega arith);
}

-- One seat changes, and what is at home.

pub shared-changed : (home later : List (Option Grouped)) (seats : List SeatGroups) (k : ℕ) (seat : SeatGroups) → AreShared home seats
    → length later ≡ length home
    → ((slot : ℕ) → IsSome (get_or later slot None) → IsSome (get_or home slot None)) → IsSeat later seat
    → ((slot : ℕ) → IsSlot (get_or later slot None) (set (owns_at slot seats) k (get_or (own_in seat) slot None)))
    → AreShared later (set seats k seat)
shared-changed home later seats k seat shared long some now slots =
    let one = shared.some in
    let few = shared.few in
    record {
      some = omega arith;
      few = omega arith;
      slots = λ slot. subst (λ (owns : List (Option Grouped)). IsSlot (get_or later slot None) owns) (sym (owns-set slot k seats seat))
          (slots slot);
      seats = All-set (IsSeat later) seats k seat now (All-weaker (IsSeat home) (IsSeat later) (λ other is. seat-later home later long some other
          is) seats shared.seats);
    }

no_more : (o : Option Grouped) → option_map (with_all []) o ≡ o
no_more None = refl
no_more (Some groups) = refl

module _ (laws : MayFoldApart) (home later : List (Option Grouped)) (seats : List SeatGroups) (k : ℕ) (d seat : SeatGroups)
    (low : k < length seats) (shared : AreShared home seats)
    (rows : ℕ → List (Place → cell.Value)) where
  abbrev pub MovesAt : ℕ → Type 0
  MovesAt slot = HasMoved (rows slot) (get_or home slot None) (get_or (own_in (get_or seats k d)) slot None) (get_or later slot None)
      (get_or (own_in seat) slot None)

  moves_at : (slot : ℕ) → MovesAt slot
      → HasMoved (rows slot) (get_or home slot None) (get_or (owns_at slot seats) k None) (get_or later slot None) (get_or (own_in seat) slot None)
  moves_at slot moves =
      subst (λ (o : Option Grouped). HasMoved (rows slot) (get_or home slot None) o (get_or later slot None) (get_or (own_in seat) slot None))
      (sym (owns-get slot k seats d low)) moves

  pub seen-at-moved : (slot : ℕ) → MovesAt slot → seen_at (set seats k seat) later slot ≡ option_map (with_all (rows slot))
      (seen_at seats home slot)
  seen-at-moved slot moves =
      let long = length-owns slot seats in
      ap (λ (owns : List (Option Grouped)). seen_with owns (get_or later slot None)) (owns-set slot k seats seat)
      ∙ seen-moved laws (owns_at slot seats) k (omega arith) (rows slot) (get_or (own_in seat) slot None) (get_or home slot None)
      (get_or later slot None) (shared.slots slot)
      (moves_at slot moves)

  pub slot-at-moved : (slot : ℕ) → MovesAt slot → HaveRoom 0 (option_map (with_all (rows slot)) (seen_at seats home slot))
      → IsSlot (get_or later slot None) (set (owns_at slot seats) k (get_or (own_in seat) slot None))
  slot-at-moved slot moves room =
      let long = length-owns slot seats in
      slot-moved laws (owns_at slot seats) k (omega arith) (rows slot) (get_or (own_in seat) slot None) (get_or home slot None)
      (get_or later slot None) (shared.slots slot)
      (moves_at slot moves) room

-- nothing that is seen changes
pub seat-moved : MayFoldApart → (home later : List (Option Grouped)) (seats : List SeatGroups) (k : ℕ) (d seat : SeatGroups) → k < length seats
    → AreShared home seats
    → length later ≡ length home → IsSeat later seat → HaveMoved home (own_in (get_or seats k d)) later (own_in seat)
    → (seen_of (set seats k seat) later ≡ seen_of seats home) × AreShared later (set seats k seat)
seat-moved laws home later seats k d seat low shared long now moves =
    let none : ℕ → List (Place → cell.Value) = λ slot. [] in
    let wide = length-seen seats home in (
      seen-is (set seats k seat) later (seen_of seats home) (omega arith)
          (λ slot within.
          seen-at-moved laws home later seats k d seat low shared none slot (moves slot)
          ∙ no_more (seen_at seats home slot)
          ∙ sym (seen-get seats home slot)),
      shared-changed home later seats k seat shared long (λ slot some. some_before (get_or home slot None) (get_or later slot None)
          (moves slot).grown some) now
          (λ slot.
          slot-at-moved laws home later seats k d seat low shared none slot (moves slot)
          (subst (HaveRoom 0) (sym (no_more (seen_at seats home slot))) (shared.slots slot).room)),
    )

-- One slot of a seat is taken home.

-- what is at home at a slot and what a seat has there
pub pair-at : (home : List (Option Grouped)) (seats : List SeatGroups) (k slot : ℕ) (d : SeatGroups) → k < length seats → AreShared home seats
    → IsPair (get_or home slot None) (get_or (own_in (get_or seats k d)) slot None)
pair-at home seats k slot d low shared =
    subst (λ (o : Option Grouped). IsPair (get_or home slot None) o) (owns-get slot k seats d low)
    (by (get_or home slot None) (shared.slots slot))
  where
    wide : length (owns_at slot seats) ≡ length seats
    wide = length-owns slot seats

    room : (home : Grouped) (own : Option Grouped) → own ≡ get_or (owns_at slot seats) k None → (with_owns (owns_at slot seats) home).rows + 0 ≤ 2
        ^ 32
        → (with_own own home).rows + 0 ≤ 2 ^ 32
    room home None is all = let few = rows-owns (owns_at slot seats) home in omega (arith, few, all)
    room home (Some own) is all =
        let few = rows-seat (owns_at slot seats) k own home (sym is) in
        let both = rows-absorbed own home in
        omega (arith, few, all, both)

    by : (home : Option Grouped) → IsSlot home (owns_at slot seats) → IsPair home (get_or (owns_at slot seats) k None)
    by None is = record { part = tt; shaped = tt; room = tt }
    by (Some home) is = record {
      part = is.parts k None (let long = wide in omega (arith, long, low));
      shaped = is.shaped;
      room = room home (get_or (owns_at slot seats) k None) refl is.room;
    }

pub without-moves : (slot : ℕ) (home later : List (Option Grouped)) (seat now : SeatGroups) → LeavesOthers slot home later → IsWithout slot seat now
    → HasMoved [] (get_or home slot None) (get_or (own_in seat) slot None) (get_or later slot None) None
    → ((other : ℕ) → IsPair (get_or home other None) (get_or (own_in seat) other None))
    → HaveMoved home (own_in seat) later (own_in now)
without-moves slot home later seat now others without moves pairs other = elim (cases_eq other slot) [
  | inl e ↦
      let P : ℕ → Type 0 = λ s. HasMoved [] (get_or home s None) (get_or (own_in seat) s None) (get_or later s None) (get_or (own_in now) s None) in
      let Q : Option Grouped → Type 0 = λ o. HasMoved [] (get_or home slot None) (get_or (own_in seat) slot None) (get_or later slot None) o in
      subst P (sym e) (subst Q (sym without.none) moves)
  | inr apart ↦
      let Q : Option Grouped → Type 0 = λ o. HasMoved [] (get_or home other None) (get_or (own_in seat) other None) o
      (get_or (own_in now) other None) in
      let R : Option Grouped → Type 0 = λ o. HasMoved [] (get_or home other None) (get_or (own_in seat) other None) (get_or home other None) o in
      subst Q (sym (others.others other apart))
      (subst R (sym (without.others other apart)) (moved-same (get_or home other None) (get_or (own_in seat) other None) (pairs other).part))
]

-- What is at home at one slot changes, where no seat has groups there.

owns_none : (owns : List (Option Grouped)) (g : Grouped) → All (λ own. own ≡ None) owns → with_owns owns g ≡ g
owns_none [] g none = refl
owns_none (own ∷ owns) g none =
    let P : Option Grouped → Type 0 = λ o. o ≡ None in
    ap (λ (o : Option Grouped). with_owns owns (with_own o g)) (All-head P own owns none) ∙ owns_none owns g (All-tail P own owns none)

pub seen-none : (owns : List (Option Grouped)) (o : Option Grouped) → All (λ own. own ≡ None) owns → seen_with owns o ≡ o
seen-none owns None none = refl
seen-none owns (Some groups) none = ap Some (owns_none owns groups none)

no_part : (home : Option Grouped) → IsPart home None
no_part None = tt
no_part (Some groups) = tt

pub slot-bare : (owns : List (Option Grouped)) (home : Option Grouped) → All (λ own. own ≡ None) owns → IfSome home AreOfItems → HaveRoom 0 home
    → IsSlot home owns
slot-bare owns home none shaped room = record {
  shaped = shaped;
  parts = All-weaker (λ own. own ≡ None) (IsPart home) (λ own is. subst (IsPart home) (sym is) (no_part home)) owns none;
  room = subst (HaveRoom 0) (sym (seen-none owns home none)) room;
}

pub seen-put : (seats : List SeatGroups) (home : List (Option Grouped)) (slot : ℕ) (x : Option Grouped) → slot < length home
    → seen_of seats (set home slot x) ≡ set (seen_of seats home) slot (seen_with (owns_at slot seats) x)
seen-put seats home slot x low =
    let seen = seen_with (owns_at slot seats) x in
    let long = length-set home slot x in
    let wide = length-set (seen_of seats home) slot seen in
    let all = length-seen seats home in
    seen-is seats (set home slot x) (set (seen_of seats home) slot seen) (omega arith)
    (λ other within. elim (cases_eq other slot) [
      | inl e ↦
          let P : ℕ → Type 0 = λ s. seen_at seats (set home slot x) s ≡ get_or (set (seen_of seats home) slot seen) s None in
          subst P (sym e)
          (ap (seen_with (owns_at slot seats)) (get_or-set_same home slot x None low)
          ∙ sym (get_or-set_same (seen_of seats home) slot seen None (omega arith)))
      | inr apart ↦
          ap (seen_with (owns_at other seats)) (get_or-set_other home slot other x None apart)
          ∙ sym (seen-get seats home other)
          ∙ sym (get_or-set_other (seen_of seats home) slot other seen None apart)
    ])

-- a seat that is out has other slots
inside_at : (slot : ℕ) (seats : List SeatGroups) → IsAllIn slot (map lending_in seats)
    → All (λ seat. IfSome (lending_in seat) (λ (one : Lending). ¬ (Has one.slots slot))) seats
inside_at slot seats inside k d low =
    let long = length-map seats lending_in in
    subst (λ (o : Option Lending). IfSome o (λ (one : Lending). ¬ (Has one.slots slot))) (get_or-map lending_in seats k d None low)
    (inside k None (omega arith))

pub inside-seat : (slot : ℕ) (seats : List SeatGroups) (k : ℕ) (d : SeatGroups) → k < length seats → IsAllIn slot (map lending_in seats)
    → IfSome (lending_in (get_or seats k d)) (λ (one : Lending). ¬ (Has one.slots slot))
inside-seat slot seats k d low inside = inside_at slot seats inside k d low

seat_put : (home : List (Option Grouped)) (slot : ℕ) (x : Option Grouped) (seat : SeatGroups) → slot < length home
    → (IsSome x → IfSome (lending_in seat) (λ (one : Lending). ¬ (Has one.slots slot))) → IsSeat home seat → IsSeat (set home slot x) seat
seat_put home slot x NotYet low inside is = tt
seat_put home slot x (AtHome own) low inside is = is ∙ sym (length-set home slot x)
seat_put home slot x (Away lent) low inside is =
    let long = length-set home slot x in
    record {
      long = is.long ∙ sym long;
      inside = is.inside;
      there = λ other has some. elim (cases_eq other slot) [
        | inl e ↦
            let here : Has lent.slots slot = subst (λ (s : ℕ). Has lent.slots s) e has in
            let now : IsSome x = subst (λ (o : Option Grouped). IsSome o)
            (ap (λ (s : ℕ). get_or (set home slot x) s None) e ∙ get_or-set_same home slot x None low) some in
            absurd (inside now here)
        | inr apart ↦ is.there other has (subst (λ (o : Option Grouped). IsSome o) (get_or-set_other home slot other x None apart) some)
      ];
      counts = λ other within. is.counts other (omega arith);
    }

pub shared-put : (home : List (Option Grouped)) (seats : List SeatGroups) (slot : ℕ) (x : Option Grouped) → AreShared home seats
    → slot < length home
    → IsSlot x (owns_at slot seats) → (IsSome x → IsAllIn slot (map lending_in seats)) → AreShared (set home slot x) seats
shared-put home seats slot x shared low now inside =
    let long = length-set home slot x in
    let one = shared.some in
    let few = shared.few in
    record {
      some = omega arith;
      few = omega arith;
      slots = λ other. elim (cases_eq other slot) [
        | inl e ↦
            let P : ℕ → Type 0 = λ s. IsSlot (get_or (set home slot x) s None) (owns_at s seats) in
            subst P (sym e) (subst (λ (o : Option Grouped). IsSlot o (owns_at slot seats)) (sym (get_or-set_same home slot x None low)) now)
        | inr apart ↦
            subst (λ (o : Option Grouped). IsSlot o (owns_at other seats)) (sym (get_or-set_other home slot other x None apart))
            (shared.slots other)
      ];
      seats = λ k d within.
          seat_put home slot x (get_or seats k d) low (λ some. inside-seat slot seats k d within (inside some)) (shared.seats k d within);
    }

-- Where something is seen, something is at home.

pub home-none : (owns : List (Option Grouped)) (home : Option Grouped) → seen_with owns home ≡ None → home ≡ None
home-none owns None is = refl
home-none owns (Some groups) is = absurd (cc)

pub seen-some : (owns : List (Option Grouped)) (home : Option Grouped) → IsSome home → IsSome (seen_with owns home)
seen-some owns None some = some
seen-some owns (Some groups) some = refl

pub room-home : (rows : ℕ) (owns : List (Option Grouped)) (home : Option Grouped) → HaveRoom rows (seen_with owns home) → HaveRoom rows home
room-home rows owns None room = tt
room-home rows owns (Some groups) room = let few = rows-owns owns groups in omega (arith, room, few)

-- What is at home at one slot is put there, or taken away.

-- where nothing is seen, nothing is at home
pub free-home : (seats : List SeatGroups) (home : List (Option Grouped)) (slot : ℕ) → slice_get (seen_of seats home) slot ≡ Some None
    → slice_get home slot ≡ Some None
free-home seats home slot free =
    let within = slice_get_within (seen_of seats home) slot None free in
    let long = length-seen seats home in
    let none : seen_at seats home slot ≡ None = sym (seen-get seats home slot) ∙ get_or_from_slice_get (seen_of seats home) slot None None free in
    slice_get-get_or home slot None (omega arith) ∙ ap Some (home-none (owns_at slot seats) (get_or home slot None) none)

-- where no seat has groups
pub put-alone : (home later : List (Option Grouped)) (seats : List SeatGroups) (slot : ℕ) (x : Option Grouped) → AreShared home seats
    → slot < length home
    → All (λ own. own ≡ None) (owns_at slot seats) → IfSome x AreOfItems → HaveRoom 0 x → (IsSome x → IsAllIn slot (map lending_in seats))
    → later ≡ set home slot x
    → (seen_of seats later ≡ set (seen_of seats home) slot x) × AreShared later seats
put-alone home later seats slot x shared low none shaped room inside is = (
  ap (seen_of seats) is ∙ seen-put seats home slot x low ∙ ap (set (seen_of seats home) slot) (seen-none (owns_at slot seats) x none),
  subst (λ (them : List (Option Grouped)). AreShared them seats) (sym is)
      (shared-put home seats slot x shared low (slot-bare (owns_at slot seats) x none shaped room) inside),
)

-- nothing is at home any more
pub put-none : (home later : List (Option Grouped)) (seats : List SeatGroups) (slot : ℕ) → AreShared home seats → slot < length home
    → later ≡ set home slot None
    → (seen_of seats later ≡ set (seen_of seats home) slot None) × AreShared later seats
put-none home later seats slot shared low is = (
  ap (seen_of seats) is ∙ seen-put seats home slot None low,
  subst (λ (them : List (Option Grouped)). AreShared them seats) (sym is)
      (shared-put home seats slot None shared low (slot-none (owns_at slot seats)) (λ some. absurd (cc some))),
)

-- What is at home is all that is seen, where no seat has groups.
pub seen-alone : (seats : List SeatGroups) (home : List (Option Grouped)) (slot : ℕ) → All (λ own. own ≡ None) (owns_at slot seats)
    → get_or (seen_of seats home) slot None ≡ get_or home slot None
seen-alone seats home slot none = seen-get seats home slot ∙ seen-none (owns_at slot seats) (get_or home slot None) none

-- What went out with a seat.

pub lending-own : (seat : SeatGroups) (lending : Lending) → lending_in seat ≡ Some lending → own_in seat ≡ lending.groups
lending-own NotYet lending is = absurd (cc)
lending-own (AtHome own) lending is = absurd (cc)
lending-own (Away lent) lending is = ap (λ (l : Lending). l.groups) (same_Some (record { slots = lent.slots; groups = lent.groups.value }) lending
    is)

pub lending-away : (seat : SeatGroups) (lending : Lending) → lending_in seat ≡ Some lending
    → (lent : LentGroups) × (seat ≡ Away lent) × ((record { slots = lent.slots; groups = lent.groups.value }) ≡ lending)
lending-away NotYet lending is = absurd (cc)
lending-away (AtHome own) lending is = absurd (cc)
lending-away (Away lent) lending is = (lent, refl, same_Some (record { slots = lent.slots; groups = lent.groups.value }) lending is)

pub lending-get : (seats : List SeatGroups) (k : ℕ) (d : SeatGroups) → k < length seats → get_or (map lending_in seats) k None ≡ lending_in
    (get_or seats k d)
lending-get seats k d low = get_or-map lending_in seats k d None low

-- groups of a seat have no more rows than are seen
pub few-rows-out : (seats : List SeatGroups) (home : List (Option Grouped)) (k slot : ℕ) (d : SeatGroups) (groups : Grouped) → k < length seats
    → get_or (own_in (get_or seats k d)) slot None ≡ Some groups → (o : Option Grouped) → o ≡ get_or home slot None → IsSome o
    → IsSomeAnd (seen_with (owns_at slot seats) o) (λ seen. groups.rows ≤ seen.rows)
few-rows-out seats home k slot d groups low is None at some = absurd (cc some)
few-rows-out seats home k slot d groups low is (Some own) at some =
    let all = rows-seat (owns_at slot seats) k groups own (owns-get slot k seats d low ∙ is) in
    omega (arith, all)

-- groups that are ready go out
pub is-out : (home own : List (Option Grouped)) (lent : LentGroups) → lent.groups.value ≡ own → length own ≡ length home
    → ((slot : ℕ) → (IsSome (get_or own slot None) → Has lent.slots slot × IsSome (get_or home slot None))
    × (Has lent.slots slot → IsSome (get_or home slot None) → IsSome (get_or own slot None)))
    → ((slot : ℕ) → slot < length own → get_or lent.counts slot 0 ≡ count_in (get_or own slot None))
    → IsOut home lent
is-out home own lent is long ready counted =
    let P : List (Option Grouped) → Type 0 = λ them. length them ≡ length home in
    let value_at = λ (slot : ℕ). ap (λ (them : List (Option Grouped)). get_or them slot None) is in
    record {
      long = subst P (sym is) long;
      inside = λ slot some. ((ready slot).0 (subst (λ (o : Option Grouped). IsSome o) (value_at slot) some)).0;
      there = λ slot has some. subst (λ (o : Option Grouped). IsSome o) (sym (value_at slot)) ((ready slot).1 has some);
      counts = λ slot low. counted slot (omega arith) ∙ ap count_in (sym (value_at slot));
    }
