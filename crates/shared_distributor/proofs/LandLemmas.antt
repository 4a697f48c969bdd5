-- What goes out with one of the seats, and what comes home with it.
use Rattle.std.proofs.Common.{◌≡◌, ℕ, ◌<◌, ◌≤◌, ◌==◌, true, List, length, map, get_or, set, refl, ap, sym, subst, ◌∙◌, arith, inl, inr}
use Rattle.std.specs.Prelude.{All, Option, None, Some, IfSome, IsSome, IsSomeAnd}
use Rattle.std.specs.Int.{bit_at}
use Rattle.std.proofs.lemmas.Bool.{cases_lt, eq-eqb}
use Rattle.std.proofs.lemmas.List.{get_or_past, get_or-set_same, length-map, length-set}
use Rattle.std.proofs.lemmas.Option.{same_Some}
use Rattle.bit_words.specs.Sets.{Has}
use Rattle.star_values.specs.Roomy.{Roomy}
use Rattle.batch_flow.specs.Rows.{Rows}
use Rattle.fact_versions.specs.declared.version.Version.{Version}
use Rattle.dimension_rows.specs.declared.dimension_row.DimensionRow.{DimensionRow}
use Rattle.aggregations.specs.Grouped.{Grouped}
use Rattle.shared_distributor.specs.declared.seats.LentGroups.{LentGroups}
use Rattle.shared_distributor.specs.declared.seats.SeatGroups.{SeatGroups}
use Rattle.shared_distributor.specs.declared.seats.SeatGroups.TheVariants.{Away}
use Rattle.shared_distributor.specs.Apart.{HasLanded, MayFoldApart, MayLand, count_in}
use Rattle.distributor.specs.Folded.{after_batch}
use Rattle.shared_distributor.specs.Seats.{AreShared, IsOut, IsSeat, MayComeHome, lending_in, own_in, seen_of}
use Rattle.shared_distributor.specs.Shared.{AreBitsWithin, AreFolded, Lending}
use Rattle.distributor.specs.Slots.{HaveRoom}
use Rattle.shared_distributor.proofs.FoldedLemmas.{long-own, may-land, row-of, seen-landed, spoiled-seen}
use Rattle.shared_distributor.proofs.SeatLemmas.{few-rows-out, lending-away, lending-get, lending-own, seen-get}

-- What goes out.

-- what went out has no more rows than are seen
pub few-lent : (seats : List SeatGroups) (home later : List (Option Grouped)) (k : ℕ) (seat : SeatGroups) (lending : Lending) → k < length seats
    → lending_in seat ≡ Some lending
    → ((slot : ℕ) → IsSome (get_or lending.groups slot None) → IsSome (get_or later slot None)) → seen_of (set seats k seat) later ≡ seen_of seats
    home
    → (slot : ℕ) → IfSome (get_or lending.groups slot None) (λ groups. IsSomeAnd (get_or (seen_of seats home) slot None)
    (λ seen. groups.rows ≤ seen.rows))
few-lent seats home later k seat lending low is inside same slot = by (get_or lending.groups slot None) refl
  where
    by : (o : Option Grouped) → o ≡ get_or lending.groups slot None → IfSome o (λ groups. IsSomeAnd (get_or (seen_of seats home) slot None)
        (λ seen. groups.rows ≤ seen.rows))
    by None at = tt
    by (Some groups) at =
        let wide = length-set seats k seat in
        let its : get_or (own_in (get_or (set seats k seat) k seat)) slot None ≡ Some groups =
        ap (λ (one : SeatGroups). get_or (own_in one) slot None) (get_or-set_same seats k seat seat low)
        ∙ ap (λ (them : List (Option Grouped)). get_or them slot None) (lending-own seat lending is) ∙ sym at in
        subst (λ (o : Option Grouped). IsSomeAnd o (λ seen. groups.rows ≤ seen.rows))
        (sym (seen-get (set seats k seat) later slot) ∙ ap (λ (them : List (Option Grouped)). get_or them slot None) same)
        (few-rows-out (set seats k seat) later k slot seat groups (omega arith) its (get_or later slot None) refl
        (inside slot (subst (λ (o : Option Grouped). IsSome o) at refl)))

-- What comes home.

abbrev pub MayCome : Rows → (lost : ℕ) → (own : List (Option Grouped)) → Lending → Type 0
MayCome batch lost own lending = AreBitsWithin batch lending.slots × ((dims : List (Roomy DimensionRow)) × (versions : List Version)
    × AreFolded dims batch versions lost own lending)

-- only a seat is out
pub out-low : (seats : List SeatGroups) (k : ℕ) (P : Lending → Type 0) → IsSomeAnd (get_or (map lending_in seats) k None) P → k < length seats
out-low seats k P some = elim (cases_lt k (length seats)) [
  | inl low ↦ low
  | inr past ↦
      let long = length-map seats lending_in in
      absurd (subst (λ (o : Option Lending). IsSomeAnd o P) (get_or_past (map lending_in seats) k None (omega arith)) some)
]

some_and : (o : Option Lending) (P : Lending → Type 0) → IsSomeAnd o P → (lending : Lending) × (o ≡ Some lending) × P lending
some_and None P some = absurd some
some_and (Some lending) P some = (lending, refl, some)

abbrev lending_of : LentGroups → Lending
lending_of lent = record { slots = lent.slots; groups = lent.groups.value }

module _ (batch : Rows) (lost : ℕ) (own : List (Option Grouped)) (seats : List SeatGroups) (k : ℕ) (d : SeatGroups) (low : k < length seats)
    (given : IsSomeAnd (get_or (map lending_in seats) k None) (MayCome batch lost own)) where
  -- what is known of it at home
  pub lent-of : (lent : LentGroups) × (get_or seats k d ≡ Away lent) × MayCome batch lost own (record { slots = lent.slots; groups = lent.groups.value })
  lent-of =
      let it = some_and (get_or (map lending_in seats) k None) (MayCome batch lost own) given in
      let away = lending-away (get_or seats k d) it.0 (sym (lending-get seats k d low) ∙ it.1) in
      (away.0, away.1, subst (MayCome batch lost own) (sym away.2) it.2)

  module _ (home : List (Option Grouped)) (shared : AreShared home seats) where
    out : IsOut home lent-of.0
    out = subst (IsSeat home) lent-of.1 (shared.seats k d low)

    long-come : length own ≡ length home
    long-come =
        let may = lent-of.2 in
        long-own may.1.0 batch may.1.1 lost own lent-of.0 may.1.2 may.0 home out

    out-come : IsSome (lending_in (get_or seats k d))
    out-come = subst (λ (seat : SeatGroups). IsSome (lending_in seat)) (sym lent-of.1) refl

    module _ (laws : MayFoldApart) (room : All (HaveRoom batch.count) (seen_of seats home)) where
      may-come-at : (slot : ℕ) → slot < length home
          → MayLand (bit_at lost slot == 1) (count_in (get_or (own_in (get_or seats k d)) slot None)) (get_or home slot None)
          (get_or (own_in (get_or seats k d)) slot None)
          (get_or own slot None)
      may-come-at slot inside =
          let may = lent-of.2 in
          subst (λ (seat : SeatGroups). MayLand (bit_at lost slot == 1) (count_in (get_or (own_in seat) slot None)) (get_or home slot None)
          (get_or (own_in seat) slot None)
          (get_or own slot None)) (sym lent-of.1)
          (may-land laws may.1.0 batch may.1.1 lost own lent-of.0 may.1.2 may.0 home seats k d low shared lent-of.1 room slot inside)

      -- so all of it may come home
      pub may-come : MayComeHome lost own home (get_or seats k d)
      may-come = record { out = out-come; fits = shared.seats k d low; long = long-come; each = may-come-at }

      module _ (later : List (Option Grouped)) (seat : SeatGroups) (spoiled : ℕ) (long : length later ≡ length home) (fits : IsSeat later seat)
          (landed : (slot : ℕ) → slot < length home → HasLanded (bit_at lost slot == 1) (bit_at spoiled slot == 1) (get_or home slot None)
          (get_or (own_in (get_or seats k d)) slot None) (get_or own slot None) (get_or later slot None) (get_or (own_in seat) slot None)) where
        landed_by : (slot : ℕ) → slot < length home → HasLanded (bit_at lost slot == 1) (bit_at spoiled slot == 1) (get_or home slot None)
            (get_or lent-of.0.groups.value slot None) (get_or own slot None) (get_or later slot None) (get_or (own_in seat) slot None)
        landed_by slot inside =
            subst (λ (one : SeatGroups). HasLanded (bit_at lost slot == 1) (bit_at spoiled slot == 1) (get_or home slot None)
            (get_or (own_in one) slot None)
            (get_or own slot None) (get_or later slot None) (get_or (own_in seat) slot None)) lent-of.1 (landed slot inside)

        pub shared-come : AreShared later (set seats k seat)
        shared-come =
            let may = lent-of.2 in
            (seen-landed laws may.1.0 batch may.1.1 lost own lent-of.0 may.1.2 may.0 home seats k d low shared lent-of.1 room later seat spoiled
            long fits landed_by).1

        pub seen-come : (dims : List (Roomy DimensionRow)) (versions : List Version) (lending : Lending) → get_or (map lending_in seats) k None ≡
            Some lending
            → AreFolded dims batch versions lost own lending
            → seen_of (set seats k seat) later ≡ after_batch dims batch versions spoiled (seen_of seats home)
        seen-come dims versions lending is folded =
            let may = lent-of.2 in
            let same : lending_of lent-of.0 ≡ lending =
            same_Some (lending_of lent-of.0) lending
            (sym (ap lending_in lent-of.1) ∙ sym (lending-get seats k d low) ∙ is) in
            let its : AreFolded dims batch versions lost own (lending_of lent-of.0) = subst (AreFolded dims batch versions lost own) (sym same)
            folded in
            (seen-landed laws dims batch versions lost own lent-of.0 its may.0 home seats k d low shared lent-of.1 room later seat spoiled long
            fits landed_by).0

        pub spoiled-come : (slot : ℕ) → Has spoiled slot → slot < length home
            → (IsSome (get_or (seen_of seats home) slot None) × (slot < length (seen_of seats home)))
            × ((row : ℕ) × Has (get_or batch.bits row 0) slot)
        spoiled-come slot has inside =
            let may = lent-of.2 in
            let test : (bit_at spoiled slot == 1) ≡ true = eq-eqb (bit_at spoiled slot) 1 has in
            let it = (landed_by slot inside).spoils test in (
              spoiled-seen spoiled seats home slot it.1 inside,
              row-of may.1.0 batch may.1.1 lost own lent-of.0 may.1.2 may.0 home out slot (get_or later slot None) (get_or (own_in seat) slot None)
                  (bit_at spoiled slot == 1) inside test (landed_by slot inside),
            )

pub if-both : {X : Type 0} (r : Option X) (P Q : X → Type 0) → IfSome r P → IfSome r Q → IfSome r (λ x. P x × Q x)
if-both None P Q p q = tt
if-both (Some x) P Q p q = (p, q)
