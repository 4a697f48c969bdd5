-- Slots, or seats, one after another.
use Rattle.std.proofs.Common.{◌≡◌, ◌≢◌, ℕ, zero, suc, ◌+◌, ◌<◌, ◌≤◌, ◌==◌, Bool, true, false, List, [], ◌∷◌, length, map, get_or, set, refl, ap, sym, subst, ◌∙◌, arith, inl, inr, ◌↔◌}
use Rattle.std.specs.Prelude.{All, Option, None, IsSome, IsTrue, if◌then◌else◌}
use Rattle.std.specs.Int.{bit_at}
use Rattle.std.proofs.lemmas.Bool.{cases_eq, eq-eqb, eqb-true}
use Rattle.std.proofs.lemmas.List.{get_or-set_other, get_or-set_same, length-set}
use Rattle.bit_words.specs.Sets.{Has, with_number}
use Rattle.bit_words.proofs.SetLemmas.{Has-with}
use Rattle.aggregations.specs.Grouped.{Grouped}
use Rattle.shared_distributor.specs.declared.seats.SeatGroups.{SeatGroups}
use Rattle.shared_distributor.specs.Apart.{HasLanded, HasMoved, LeavesOthers, MayFoldApart}
use Rattle.shared_distributor.specs.Seats.{AreShared, HaveMoved, IsSeat, IsWithout, lending_in, own_in, owns_at, seen_of}
use Rattle.std.proofs.Math.Seq.{map-set_same}
use Rattle.shared_distributor.proofs.SeatLemmas.{seat-later, some_before, length-owns, owns-set, pair-at, seat-moved, without-moves}
use Rattle.distributor.proofs.SlotLemmas.{put-other, with_slot}

-- Slots that are prepared.

-- the first slots, this many, have changed, and those behind are as they were
pub record HaveMovedTo (home own later kept : List (Option Grouped)) (count : ℕ) : Type 0 where
  pub long : length later ≡ length home
  pub wide : length kept ≡ length own
  pub moved : HaveMoved home own later kept
  pub behind : (slot : ℕ) → count ≤ slot → (get_or later slot None ≡ get_or home slot None) × (get_or kept slot None ≡ get_or own slot None)

-- the first slots are ready
abbrev pub AreReadyTo : (slots : ℕ) → (home own : List (Option Grouped)) → (count : ℕ) → Type 0
AreReadyTo slots home own count = (slot : ℕ) → slot < count → (IsSome (get_or own slot None) → Has slots slot × IsSome (get_or home slot None))
    × (Has slots slot → IsSome (get_or home slot None) → IsSome (get_or own slot None))

-- Slots that come home.

-- the first slots, this many, came home or are spoiled, and those behind are as they were
pub record HaveLandedTo (lost spoiled : ℕ) (home out own later kept : List (Option Grouped)) (count : ℕ) : Type 0 where
  pub long : length later ≡ length home
  pub wide : length kept ≡ length own
  pub done : (slot : ℕ) → slot < count → HasLanded (bit_at lost slot == 1) (bit_at spoiled slot == 1) (get_or home slot None) (get_or out slot None)
      (get_or own slot None) (get_or later slot None) (get_or kept slot None)
  pub behind : (slot : ℕ) → count ≤ slot → (get_or later slot None ≡ get_or home slot None) × (get_or kept slot None ≡ get_or own slot None)
  pub low : (slot : ℕ) → Has spoiled slot → slot < count

-- a test for a member
pub has-test : (b : Bool) (set i : ℕ) → (IsTrue b ↔ Has set i) → b ≡ (bit_at set i == 1)
has-test true set i is = sym (eq-eqb (bit_at set i) 1 (is.0 refl))
has-test false set i is = by (bit_at set i == 1) refl
  where
    by : (t : Bool) → (bit_at set i == 1) ≡ t → false ≡ t
    by false e = refl
    by true e = is.1 (eqb-true (bit_at set i) 1 e)

-- a slot is put in, or not
put-same : (t : Bool) (slot spoiled : ℕ) → ¬ (Has spoiled slot) → t ≡ (bit_at (with_slot t slot spoiled) slot == 1)
put-same true slot spoiled none = sym (eq-eqb (bit_at (with_number spoiled slot) slot) 1 ((Has-with spoiled slot slot).1 (inr refl)))
put-same false slot spoiled none = has-test false spoiled slot (λ never. absurd (cc never), λ has. absurd (none has))

pub landed-more : (lost spoiled : ℕ) (home out own later kept new_home new_own : List (Option Grouped)) (slot : ℕ) (is_lost t : Bool)
    → HaveLandedTo lost spoiled home out own later kept slot → (IsTrue is_lost ↔ Has lost slot)
    → HasLanded is_lost t (get_or later slot None) (get_or out slot None) (get_or kept slot None) (get_or new_home slot None)
    (get_or new_own slot None)
    → LeavesOthers slot later new_home × LeavesOthers slot kept new_own
    → HaveLandedTo lost (if t then with_number spoiled slot else spoiled) home out own new_home new_own (slot + 1)
landed-more lost spoiled home out own later kept new_home new_own slot is_lost t so_far lost_is lands others =
    let here = so_far.behind slot (omega arith) in
    let none : ¬ (Has spoiled slot) = λ has. let low = so_far.low slot has in absurd (omega arith) in
    let now : ℕ = with_slot t slot spoiled in
    record {
      long = others.0.long ∙ so_far.long;
      wide = others.1.long ∙ so_far.wide;
      done = λ other low. elim (cases_eq other slot) [
        | inl e ↦
            let L : ℕ → Type 0 = λ s. HasLanded (bit_at lost s == 1) (bit_at now s == 1) (get_or home s None) (get_or out s None)
            (get_or own s None) (get_or new_home s None) (get_or new_own s None) in
            let A : Bool → Type 0 = λ b. HasLanded b (bit_at now slot == 1) (get_or home slot None) (get_or out slot None) (get_or own slot None)
            (get_or new_home slot None) (get_or new_own slot None) in
            let B : Bool → Type 0 = λ b. HasLanded is_lost b (get_or home slot None) (get_or out slot None) (get_or own slot None)
            (get_or new_home slot None) (get_or new_own slot None) in
            let C : Option Grouped → Type 0 = λ o. HasLanded is_lost t (get_or home slot None) (get_or out slot None) o (get_or new_home slot None)
            (get_or new_own slot None) in
            let D : Option Grouped → Type 0 = λ h. HasLanded is_lost t h (get_or out slot None) (get_or kept slot None) (get_or new_home slot None)
            (get_or new_own slot None) in
            subst L (sym e) (subst A (has-test is_lost lost slot lost_is) (subst B (put-same t slot spoiled none)
            (subst C here.1 (subst D here.0 lands))))
        | inr apart ↦
            let A : ℕ → Type 0 = λ b. HasLanded (bit_at lost other == 1) (b == 1) (get_or home other None) (get_or out other None)
            (get_or own other None) (get_or new_home other None) (get_or new_own other None) in
            let B : Option Grouped → Type 0 = λ o. HasLanded (bit_at lost other == 1) (bit_at spoiled other == 1) (get_or home other None)
            (get_or out other None) (get_or own other None) (get_or new_home other None) o in
            let C : Option Grouped → Type 0 = λ h. HasLanded (bit_at lost other == 1) (bit_at spoiled other == 1) (get_or home other None)
            (get_or out other None) (get_or own other None) h (get_or kept other None) in
            subst A (sym (put-other t slot spoiled other apart))
            (subst B (sym (others.1.others other apart)) (subst C (sym (others.0.others other apart)) (so_far.done other (omega arith))))
      ];
      behind = λ other past.
          let apart : other ≢ slot = λ e. omega arith in
          let before = so_far.behind other (omega arith) in
          (others.0.others other apart ∙ before.0, others.1.others other apart ∙ before.1);
      low = λ other has. elim (cases_eq other slot) [
        | inl e ↦ omega arith
        | inr apart ↦ let before = so_far.low other (sym (put-other t slot spoiled other apart) ∙ has) in omega arith
      ];
    }

-- Seats from which a slot is taken.

-- the first seats, this many, have nothing at a slot any more, and nothing that is seen has changed
pub record AreTakenFrom (slot : ℕ) (home : List (Option Grouped)) (seats : List SeatGroups) (later : List (Option Grouped)) (now : List SeatGroups)
    (count : ℕ) : Type 0 where
  pub seen : seen_of now later ≡ seen_of seats home
  pub out : map lending_in now ≡ map lending_in seats
  pub shared : AreShared later now
  pub none : (k : ℕ) → k < count → get_or (owns_at slot now) k None ≡ None
  pub long : length later ≡ length home
  pub wide : length now ≡ length seats

pub taken-next : MayFoldApart → (slot : ℕ) (home : List (Option Grouped)) (seats : List SeatGroups) (later : List (Option Grouped))
    (now : List SeatGroups) (k : ℕ)
    (new_home : List (Option Grouped)) (d seat : SeatGroups) → AreTakenFrom slot home seats later now k → k < length now
    → HasMoved [] (get_or later slot None) (get_or (own_in (get_or now k d)) slot None) (get_or new_home slot None) None
    → LeavesOthers slot later new_home → IsWithout slot (get_or now k d) seat
    → AreTakenFrom slot home seats new_home (set now k seat) (k + 1)
taken-next laws slot home seats later now k new_home d seat so_far low moves others without =
    let shared = so_far.shared in
    let owner = get_or now k d in
    let all_move = without-moves slot later new_home owner seat others without moves (λ other. pair-at later now k other d low shared) in
    let fits : IsSeat new_home seat =
    seat-later later new_home others.long (λ other some. some_before (get_or later other None) (get_or new_home other None) (all_move other).grown
    some) seat
    (without.seat later (shared.seats k d low)) in
    let all = seat-moved laws later new_home now k d seat low shared others.long fits all_move in
    let wide = length-owns slot now in
    record {
      seen = all.0 ∙ so_far.seen;
      out = map-set_same lending_in now k seat d without.lending ∙ so_far.out;
      shared = all.1;
      none = λ j under.
          ap (λ (owns : List (Option Grouped)). get_or owns j None) (owns-set slot k now seat)
          ∙ (elim (cases_eq j k) [
            | inl e ↦
                ap (λ (n : ℕ). get_or (set (owns_at slot now) k (get_or (own_in seat) slot None)) n None) e
                ∙ get_or-set_same (owns_at slot now) k (get_or (own_in seat) slot None) None (omega arith)
                ∙ without.none
            | inr apart ↦
                get_or-set_other (owns_at slot now) k j (get_or (own_in seat) slot None) None apart ∙ so_far.none j (omega arith)
          ]);
      long = others.long ∙ so_far.long;
      wide = length-set now k seat ∙ so_far.wide;
    }

pub same_read : {A : Type 0} (xs : List A) (k : ℕ) (d e : A) → k < length xs → get_or xs k d ≡ get_or xs k e
same_read [] k d e low = absurd (omega arith)
same_read (x ∷ xs) zero d e low = refl
same_read (x ∷ xs) (suc k) d e low = same_read xs k d e (omega arith)

-- all seats have nothing there
pub taken-all : (slot : ℕ) (home : List (Option Grouped)) (seats : List SeatGroups) (later : List (Option Grouped)) (now : List SeatGroups)
    (count : ℕ)
    → AreTakenFrom slot home seats later now count → length now ≤ count → All (λ own. own ≡ None) (owns_at slot now)
taken-all slot home seats later now count so_far all k d low =
    let wide = length-owns slot now in
    same_read (owns_at slot now) k d None (omega arith) ∙ so_far.none k (omega arith)
