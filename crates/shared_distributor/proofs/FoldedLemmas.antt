-- A batch that is folded at home, or comes home with a seat: what is seen has its rows.
use Rattle.std.proofs.Common.{◌≡◌, ◌≢◌, ℕ, suc, ◌+◌, ◌^◌, ◌<◌, ◌≤◌, ◌==◌, Bool, true, false, cond, List, [], ◌∷◌, ◌++◌, length, map, get_or, set, drop, refl, ap, sym, subst, ◌∙◌, arith, inl, inr}
use Rattle.std.specs.Prelude.{All, Option, None, Some, option_map, IfSome, IsSome}
use Rattle.std.specs.Int.{bit_at}
use Rattle.std.proofs.lemmas.Bool.{cases_eq, cases_lt, eqb-true}
use Rattle.std.proofs.lemmas.List.{get_or_past, length-map, length-take}
use Rattle.std.proofs.lemmas.List.FromFn.{get_or-map-range_with_len, length-map-range_with_len}
use Rattle.std.proofs.lemmas.List.Folds.{fold-map}
use Rattle.star_values.specs.declared.value.Value as cell
use Rattle.star_plan.specs.declared.place.Place.{Place}
use Rattle.star_values.specs.Roomy.{Roomy}
use Rattle.query_meaning.specs.Read.{value_by_key}
use Rattle.bit_words.specs.Sets.{Has}
use Rattle.batch_flow.specs.Rows.{Rows}
use Rattle.fact_versions.specs.declared.version.Version.{Version}
use Rattle.dimension_rows.specs.declared.dimension_row.DimensionRow.{DimensionRow}
use Rattle.aggregations.specs.Absorbing.{with_all}
use Rattle.aggregations.specs.Folding.{with_row}
use Rattle.aggregations.specs.Grouped.{Grouped}
use Rattle.shared_distributor.specs.declared.seats.LentGroups.{LentGroups}
use Rattle.shared_distributor.specs.declared.seats.SeatGroups.{SeatGroups}
use Rattle.shared_distributor.specs.declared.seats.SeatGroups.TheVariants.{Away}
use Rattle.shared_distributor.specs.Apart.{HasLanded, HasMoved, IsFoldedBy, IsPart, IsSlot, MayFoldApart, MayLand, count_in, seen_with}
use Rattle.distributor.specs.Folded.{after_batch, versions_for, versions_of, with_batch}
use Rattle.shared_distributor.specs.Seats.{AreShared, IsOut, IsSeat, own_in, owns_at, seen_at, seen_of}
use Rattle.shared_distributor.specs.Shared.{AreBitsWithin, AreFolded}
use Rattle.distributor.specs.Slots.{HaveRoom}
use Rattle.shared_distributor.proofs.LoopLemmas.{same_read}
use Rattle.shared_distributor.proofs.OwnLemmas.{rows-all, rows-seat, seen-more, slot-more, slot-none}
use Rattle.shared_distributor.proofs.SeatLemmas.{length-seen, owns-get, pair-at, room-home, seat-later, seen-at-moved, seen-get, seen-is, seen-some, shared-changed, slot-at-moved, some_before}
use Rattle.distributor.proofs.VersionLemmas.{first_of, length-versions_for}

-- Rows of a batch.

-- the rows of a batch for a slot
abbrev pub rows_at : List (Roomy DimensionRow) → Rows → List Version → (slot : ℕ) → List (Place → cell.Value)
rows_at dims batch versions slot = map (value_by_key dims) (versions_for slot batch.bits (versions_of batch versions))

few-rows : (dims : List (Roomy DimensionRow)) (batch : Rows) (versions : List Version) (slot : ℕ) → length (rows_at dims batch versions slot) ≤
    batch.count
few-rows dims batch versions slot =
    let all = length-map (versions_for slot batch.bits (versions_of batch versions)) (value_by_key dims) in
    let few = length-versions_for slot batch.bits (versions_of batch versions) in
    let cut = length-take batch.count (drop batch.first versions) in
    omega arith

batch-rows : (dims : List (Roomy DimensionRow)) (batch : Rows) (versions : List Version) (slot : ℕ) (o : Option Grouped)
    → option_map (with_batch dims batch versions slot) o ≡ option_map (with_all (rows_at dims batch versions slot)) o
batch-rows dims batch versions slot None = refl
batch-rows dims batch versions slot (Some groups) =
    ap Some (sym (fold-map (λ (before : Grouped) (values : Place → cell.Value). with_row values before) (value_by_key dims) groups
    (versions_for slot batch.bits (versions_of batch versions))))

-- a slot whose bit no row has gets none
not_one : (slot word : ℕ) → ¬ (Has word slot) → (bit_at word slot == 1) ≡ false
not_one slot word none = by (bit_at word slot == 1) refl
  where
    by : (t : Bool) → (bit_at word slot == 1) ≡ t → t ≡ false
    by false e = refl
    by true e = absurd (none (eqb-true (bit_at word slot) 1 e))

no-versions : (slot : ℕ) (bits : List ℕ) (versions : List Version) → ((row : ℕ) → ¬ (Has (get_or bits row 0) slot))
    → versions_for slot bits versions ≡ []
no-versions slot [] versions none = refl
no-versions slot (word ∷ bits) [] none = refl
no-versions slot (word ∷ bits) (version ∷ versions) none =
    first_of slot word bits version versions
    ∙ ap (λ (t : Bool). cond t (version ∷ []) [] ++ versions_for slot bits versions) (not_one slot word (none 0))
    ∙ no-versions slot bits versions (λ row. none (suc row))

some-version : (slot : ℕ) (bits : List ℕ) (versions : List Version) → versions_for slot bits versions ≢ [] → (row : ℕ)
    × Has (get_or bits row 0) slot
some-version slot [] versions some = absurd (some refl)
some-version slot (word ∷ bits) [] some = absurd (some refl)
some-version slot (word ∷ bits) (version ∷ versions) some = elim (cases_eq (bit_at word slot) 1) [
  | inl has ↦ (0, has)
  | inr not ↦
      let rest = some-version slot bits versions (λ none.
      some (first_of slot word bits version versions
      ∙ ap (λ (t : Bool). cond t (version ∷ []) [] ++ versions_for slot bits versions) (not_one slot word not) ∙ none)) in
      (suc rest.0, rest.1)
]

-- What slots have after a batch.

module _ (dims : List (Roomy DimensionRow)) (batch : Rows) (versions : List Version) where
  abbrev pub after_at : (spoiled slot : ℕ) → Option Grouped → Option Grouped
  after_at spoiled slot attached = cond (bit_at spoiled slot == 1) None (option_map (with_batch dims batch versions slot) attached)

  pub length-after : (spoiled : ℕ) (attached : List (Option Grouped)) → length (after_batch dims batch versions spoiled attached) ≡ length attached
  length-after spoiled attached = length-map-range_with_len (λ (slot : ℕ). after_at spoiled slot (get_or attached slot None)) 0 (length attached)

  pub after-get : (spoiled : ℕ) (attached : List (Option Grouped)) (slot : ℕ) → slot < length attached
      → get_or (after_batch dims batch versions spoiled attached) slot None ≡ after_at spoiled slot (get_or attached slot None)
  after-get spoiled attached slot low =
      get_or-map-range_with_len (λ (s : ℕ). after_at spoiled s (get_or attached s None)) 0 (length attached) slot slot None low (omega arith)

  -- a list that has that at each slot
  pub after-is : (spoiled : ℕ) (seats : List SeatGroups) (home : List (Option Grouped)) (attached : List (Option Grouped))
      → length home ≡ length attached
      → ((slot : ℕ) → slot < length home → seen_at seats home slot ≡ after_at spoiled slot (get_or attached slot None))
      → seen_of seats home ≡ after_batch dims batch versions spoiled attached
  after-is spoiled seats home attached long each =
      let same = length-after spoiled attached in
      seen-is seats home (after_batch dims batch versions spoiled attached) (omega arith)
      (λ slot low. each slot low ∙ sym (after-get spoiled attached slot (omega arith)))

  room-more : (slot : ℕ) (seen : Option Grouped) → HaveRoom batch.count seen → HaveRoom 0 (option_map (with_all (rows_at dims batch versions slot))
      seen)
  room-more slot None room = tt
  room-more slot (Some groups) room =
      let few = few-rows dims batch versions slot in
      let all = rows-all (rows_at dims batch versions slot) groups in
      omega (arith, few, all, room)

  -- one slot, where the batch is folded at home
  folded-slot : MayFoldApart → (slot : ℕ) (t : Bool) (home later : Option Grouped) (owns : List (Option Grouped)) → IsSlot home owns
      → HaveRoom batch.count (seen_with owns home)
      → later ≡ cond t None (option_map (with_batch dims batch versions slot) home)
      → (seen_with owns later ≡ cond t None (option_map (with_batch dims batch versions slot) (seen_with owns home))) × IsSlot later owns
      × (IsSome later → IsSome home)
  folded-slot laws slot true home later owns is room now = (
    ap (seen_with owns) now,
    subst (λ (o : Option Grouped). IsSlot o owns) (sym now) (slot-none owns),
    λ some. let never = subst (λ (o : Option Grouped). IsSome o) now some in absurd (cc never),
  )
  folded-slot laws slot false home later owns is room now =
      let rows = rows_at dims batch versions slot in
      let as_rows : later ≡ option_map (with_all rows) home = now ∙ batch-rows dims batch versions slot home in (
        ap (seen_with owns) as_rows ∙ seen-more laws rows home owns is ∙ sym (batch-rows dims batch versions slot (seen_with owns home)),
        subst (λ (o : Option Grouped). IsSlot o owns) (sym as_rows) (slot-more laws rows home owns is (room-more slot (seen_with owns home) room)),
        λ some. some_mapped home (subst (λ (o : Option Grouped). IsSome o) as_rows some),
      )
    where
      some_mapped : (o : Option Grouped) → IsSome (option_map (with_all (rows_at dims batch versions slot)) o) → IsSome o
      some_mapped None some = some
      some_mapped (Some groups) some = refl

-- Room at all slots.

pub room-at : (rows : ℕ) (seats : List SeatGroups) (home : List (Option Grouped)) → All (HaveRoom rows) (seen_of seats home) → (slot : ℕ)
    → HaveRoom rows (seen_at seats home slot)
room-at rows seats home room slot = elim (cases_lt slot (length home)) [
  | inl low ↦ let long = length-seen seats home in subst (HaveRoom rows) (seen-get seats home slot) (room slot None (omega arith))
  | inr past ↦ subst (λ (o : Option Grouped). HaveRoom rows (seen_with (owns_at slot seats) o)) (sym (get_or_past home slot None past)) tt
]

pub room-all : (rows : ℕ) (seats : List SeatGroups) (home : List (Option Grouped)) → All (HaveRoom rows) (seen_of seats home)
    → All (HaveRoom rows) home
room-all rows seats home room slot d low =
    subst (HaveRoom rows) (sym (same_read home slot d None low))
    (room-home rows (owns_at slot seats) (get_or home slot None) (room-at rows seats home room slot))

-- A batch that is folded at home.

pub shared-later : (home later : List (Option Grouped)) (seats : List SeatGroups) → AreShared home seats → length later ≡ length home
    → ((slot : ℕ) → IsSome (get_or later slot None) → IsSome (get_or home slot None))
    → ((slot : ℕ) → IsSlot (get_or later slot None) (owns_at slot seats)) → AreShared later seats
shared-later home later seats shared long some slots =
    let one = shared.some in
    let few = shared.few in
    record {
      some = omega arith;
      few = omega arith;
      slots = slots;
      seats = λ k d low. seat-later home later long some (get_or seats k d) (shared.seats k d low);
    }

pub folded-home : MayFoldApart → (dims : List (Roomy DimensionRow)) (batch : Rows) (versions : List Version) (spoiled : ℕ)
    (seats : List SeatGroups) (home later : List (Option Grouped))
    → AreShared home seats → All (HaveRoom batch.count) (seen_of seats home) → later ≡ after_batch dims batch versions spoiled home
    → (seen_of seats later ≡ after_batch dims batch versions spoiled (seen_of seats home)) × AreShared later seats
folded-home laws dims batch versions spoiled seats home later shared room is =
    let long : length later ≡ length home = ap (λ (them : List (Option Grouped)). length them) is ∙ length-after dims batch versions spoiled home in
    let wide = length-seen seats home in (
      after-is dims batch versions spoiled seats later (seen_of seats home) (omega arith)
          (λ slot low. (by slot (omega arith)).0 ∙ ap (after_at dims batch versions spoiled slot) (sym (seen-get seats home slot))),
      shared-later home later seats shared long
          (λ slot some. elim (cases_lt slot (length home)) [
            | inl low ↦ (by slot low).2 some
            | inr past ↦ let never = subst (λ (o : Option Grouped). IsSome o) (get_or_past later slot None (omega arith)) some in absurd (cc never)
          ])
          (λ slot. elim (cases_lt slot (length home)) [
            | inl low ↦ (by slot low).1
            | inr past ↦ subst (λ (o : Option Grouped). IsSlot o (owns_at slot seats)) (sym (get_or_past later slot None (omega arith)))
                (slot-none (owns_at slot seats))
          ]),
    )
  where
    by : (slot : ℕ) → slot < length home
        → (seen_at seats later slot ≡ after_at dims batch versions spoiled slot (seen_at seats home slot)) × IsSlot (get_or later slot None)
        (owns_at slot seats)
        × (IsSome (get_or later slot None) → IsSome (get_or home slot None))
    by slot low =
        folded-slot dims batch versions laws slot (bit_at spoiled slot == 1) (get_or home slot None) (get_or later slot None) (owns_at slot seats)
        (shared.slots slot)
        (room-at batch.count seats home room slot)
        (ap (λ (them : List (Option Grouped)). get_or them slot None) is ∙ after-get dims batch versions spoiled home slot low)

-- only slots with groups are spoiled
pub spoiled-seen : (spoiled : ℕ) (seats : List SeatGroups) (home : List (Option Grouped)) (slot : ℕ) → IsSome (get_or home slot None)
    → slot < length home
    → IsSome (get_or (seen_of seats home) slot None) × (slot < length (seen_of seats home))
spoiled-seen spoiled seats home slot some low =
    let long = length-seen seats home in (
      subst (λ (o : Option Grouped). IsSome o) (sym (seen-get seats home slot)) (seen-some (owns_at slot seats) (get_or home slot None) some),
      omega arith,
    )

-- A batch that comes home.

module _ (dims : List (Roomy DimensionRow)) (batch : Rows) (versions : List Version) (lost : ℕ) (own : List (Option Grouped)) (lent : LentGroups)
    (folded : AreFolded dims batch versions lost own (record { slots = lent.slots; groups = lent.groups.value }))
    (within : AreBitsWithin batch lent.slots)
    (home : List (Option Grouped)) (out : IsOut home lent) where
  pub long-own : length own ≡ length home
  long-own =
      ap (λ (them : List (Option Grouped)). length them) folded.folded ∙ length-after dims batch versions lost lent.groups.value ∙ out.long

  pub folded-by : (slot : ℕ) → slot < length home
      → IsFoldedBy (bit_at lost slot == 1) (rows_at dims batch versions slot) (get_or home slot None) (get_or lent.groups.value slot None)
      (get_or own slot None)
  folded-by slot low =
      let long = out.long in
      record {
        folded =
            ap (λ (them : List (Option Grouped)). get_or them slot None) folded.folded
            ∙ after-get dims batch versions lost lent.groups.value slot (omega arith)
            ∙ ap (λ (o : Option Grouped). cond (bit_at lost slot == 1) None o)
            (batch-rows dims batch versions slot (get_or lent.groups.value slot None));
        none = λ some none.
            let outside : ¬ (Has lent.slots slot) = λ has.
            let never = subst (λ (o : Option Grouped). IsSome o) none (out.there slot has some) in absurd (cc never) in
            ap (map (value_by_key dims)) (no-versions slot batch.bits (versions_of batch versions) (λ row has. outside (within row slot has)));
      }

  -- a spoiled slot has some row
  pub row-of : (slot : ℕ) (later kept : Option Grouped) (t : Bool) → slot < length home → t ≡ true
      → HasLanded (bit_at lost slot == 1) t (get_or home slot None) (get_or lent.groups.value slot None) (get_or own slot None) later kept
      → (row : ℕ) × Has (get_or batch.bits row 0) slot
  row-of slot later kept t low spoils landed = elim ((landed.spoils spoils).2 (rows_at dims batch versions slot) (folded-by slot low)) [
    | inl is_lost ↦ let it = folded.lost slot (eqb-true (bit_at lost slot) 1 is_lost) in (it.1, it.2)
    | inr some ↦ some-version slot batch.bits (versions_of batch versions) (λ none. some (ap (map (value_by_key dims)) none))
  ]

room-land : (is_lost : Bool) (rows : List (Place → cell.Value)) (count k : ℕ) (owns : List (Option Grouped)) (home out own : Option Grouped)
    → get_or owns k None ≡ out
    → own ≡ cond is_lost None (option_map (with_all rows) out) → length rows ≤ count → HaveRoom count (seen_with owns home)
    → IfSome home (λ groups. IfSome own (λ its. groups.rows + its.rows ≤ 2 ^ 32))
room-land is_lost rows count k owns None out own at is few room = tt
room-land true rows count k owns (Some home) out own at is few room =
    subst (λ (o : Option Grouped). IfSome o (λ its. home.rows + its.rows ≤ 2 ^ 32)) (sym is) tt
room-land false rows count k owns (Some home) None own at is few room =
    subst (λ (o : Option Grouped). IfSome o (λ its. home.rows + its.rows ≤ 2 ^ 32)) (sym is) tt
room-land false rows count k owns (Some home) (Some out) own at is few room =
    let both = rows-seat owns k out home at in
    let all = rows-all rows out in
    subst (λ (o : Option Grouped). IfSome o (λ its. home.rows + its.rows ≤ 2 ^ 32)) (sym is) (omega (arith, both, all, few, room))

module _ (laws : MayFoldApart) (dims : List (Roomy DimensionRow)) (batch : Rows) (versions : List Version) (lost : ℕ) (own : List (Option Grouped))
    (lent : LentGroups)
    (folded : AreFolded dims batch versions lost own (record { slots = lent.slots; groups = lent.groups.value }))
    (within : AreBitsWithin batch lent.slots)
    (home : List (Option Grouped)) (seats : List SeatGroups) (k : ℕ) (d : SeatGroups) (low : k < length seats) (shared : AreShared home seats)
    (away : get_or seats k d ≡ Away lent) (room : All (HaveRoom batch.count) (seen_of seats home)) where
  out : IsOut home lent
  out = subst (IsSeat home) away (shared.seats k d low)

  own_is : (slot : ℕ) → get_or (owns_at slot seats) k None ≡ get_or lent.groups.value slot None
  own_is slot = owns-get slot k seats d low ∙ ap (λ (seat : SeatGroups). get_or (own_in seat) slot None) away

  -- it may be taken home
  pub may-land : (slot : ℕ) → slot < length home
      → MayLand (bit_at lost slot == 1) (count_in (get_or lent.groups.value slot None)) (get_or home slot None)
      (get_or lent.groups.value slot None) (get_or own slot None)
  may-land slot inside =
      let by = folded-by dims batch versions lost own lent folded within home out slot inside in
      let pair = pair-at home seats k slot d low shared in
      record {
        part = subst (λ (seat : SeatGroups). IsPart (get_or home slot None) (get_or (own_in seat) slot None)) away pair.part;
        shaped = pair.shaped;
        counted = refl;
        rows = (rows_at dims batch versions slot, by);
        room = room-land (bit_at lost slot == 1) (rows_at dims batch versions slot) batch.count k (owns_at slot seats) (get_or home slot None)
            (get_or lent.groups.value slot None) (get_or own slot None) (own_is slot) by.folded (few-rows dims batch versions slot)
            (room-at batch.count seats home room slot);
      }

  module _ (later : List (Option Grouped)) (seat : SeatGroups) (spoiled : ℕ) (long : length later ≡ length home) (fits : IsSeat later seat)
      (landed : (slot : ℕ) → slot < length home → HasLanded (bit_at lost slot == 1) (bit_at spoiled slot == 1) (get_or home slot None)
      (get_or lent.groups.value slot None)
      (get_or own slot None) (get_or later slot None) (get_or (own_in seat) slot None)) where
    abbrev Comes : ℕ → Bool → Type 0
    Comes slot t =
        (seen_at (set seats k seat) later slot ≡ cond t None (option_map (with_batch dims batch versions slot) (seen_at seats home slot)))
        × IsSlot (get_or later slot None) (set (owns_at slot seats) k (get_or (own_in seat) slot None))
        × (IsSome (get_or later slot None) → IsSome (get_or home slot None))

    comes_none : (slot : ℕ) → get_or later slot None ≡ None → Comes slot true
    comes_none slot none = (
      ap (seen_with (owns_at slot (set seats k seat))) none,
      subst (λ (o : Option Grouped). IsSlot o (set (owns_at slot seats) k (get_or (own_in seat) slot None))) (sym none)
          (slot-none (set (owns_at slot seats) k (get_or (own_in seat) slot None))),
      λ some. let never = subst (λ (o : Option Grouped). IsSome o) none some in absurd (cc never),
    )

    comes_moved : (slot : ℕ) → HasMoved (rows_at dims batch versions slot) (get_or home slot None) (get_or lent.groups.value slot None)
        (get_or later slot None) (get_or (own_in seat) slot None)
        → Comes slot false
    comes_moved slot moves =
        let rows : ℕ → List (Place → cell.Value) = λ s. rows_at dims batch versions s in
        let its = subst (λ (one : SeatGroups). HasMoved (rows slot) (get_or home slot None) (get_or (own_in one) slot None)
        (get_or later slot None) (get_or (own_in seat) slot None))
        (sym away) moves in (
          seen-at-moved laws home later seats k d seat low shared rows slot its
              ∙ sym (batch-rows dims batch versions slot (seen_at seats home slot)),
          slot-at-moved laws home later seats k d seat low shared rows slot its
              (room-more dims batch versions slot (seen_at seats home slot) (room-at batch.count seats home room slot)),
          λ some. some_before (get_or home slot None) (get_or later slot None) moves.grown some,
        )

    comes_by : (slot : ℕ) (t : Bool) → slot < length home
        → HasLanded (bit_at lost slot == 1) t (get_or home slot None) (get_or lent.groups.value slot None) (get_or own slot None)
        (get_or later slot None) (get_or (own_in seat) slot None)
        → Comes slot t
    comes_by slot true inside is = comes_none slot (is.spoils refl).0
    comes_by slot false inside is =
        comes_moved slot (is.moves refl (rows_at dims batch versions slot) (folded-by dims batch versions lost own lent folded within home out slot
        inside))

    pub seen-landed : (seen_of (set seats k seat) later ≡ after_batch dims batch versions spoiled (seen_of seats home))
        × AreShared later (set seats k seat)
    seen-landed =
        let wide = length-seen seats home in
        let at : (slot : ℕ) → slot < length home → Comes slot (bit_at spoiled slot == 1) = λ slot inside. comes_by slot (bit_at spoiled slot == 1)
        inside (landed slot inside) in (
          after-is dims batch versions spoiled (set seats k seat) later (seen_of seats home) (omega arith)
              (λ slot inside. (at slot (omega arith)).0 ∙ ap (after_at dims batch versions spoiled slot) (sym (seen-get seats home slot))),
          shared-changed home later seats k seat shared long
              (λ slot some. elim (cases_lt slot (length home)) [
                | inl inside ↦ (at slot inside).2 some
                | inr past ↦ let never = subst (λ (o : Option Grouped). IsSome o) (get_or_past later slot None (omega arith)) some in absurd
                    (cc never)
              ])
              fits
              (λ slot. elim (cases_lt slot (length home)) [
                | inl inside ↦ (at slot inside).1
                | inr past ↦ (comes_none slot (get_or_past later slot None (omega arith))).1
              ]),
        )
