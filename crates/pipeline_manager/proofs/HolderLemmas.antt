-- The slot that a query holds is the first that it holds.
use Rattle.std.proofs.Common.{◌≡◌, ℕ, ◌<◌, ◌≤◌, Bool, true, false, cond, eq-eqb, List, [], ◌∷◌, length, get_or, take, Option, Some, None, IsSome, position, refl, ap, sym, ◌∙◌, arith}
use Rattle.std.specs.List.{position_or_len, count_by}
use Rattle.std.specs.Option.{option_map_or}
use Rattle.std.specs.Bool.{IsTrue}
use Rattle.std.proofs.lemmas.Bool.{lt-ltb}
use Rattle.std.proofs.lemmas.List.{get_or-take, length-take-le}
use Rattle.std.proofs.lemmas.List.Sums.{sum_by-cons, sum_by_more_le, get_or-le-sum_by, position_or_len_is}
use Rattle.pipeline_manager.specs.declared.life.Life.{Life}
use Rattle.pipeline_manager.specs.declared.life.Life.TheVariants.{Waiting, Building, Running, Ending, Answered, Spoiled, Abandoned}
use Rattle.pipeline_manager.specs.declared.life.SlotState.{SlotState}
use Rattle.pipeline_manager.specs.declared.life.SlotState.TheVariants.{Free, Held}
use Rattle.pipeline_manager.specs.Lives.{Lives, life_in, slot_at, slot_of, built_in, built_of, is_held_by}
use Rattle.pipeline_manager.specs.Conditions.{CanSpoil, is_begun}
use Rattle.pipeline_manager.specs.Sound.{FitsSlots, AreSoundLives}
use Rattle.pipeline_manager.proofs.SoundLemmas.{fits-one}

-- what passes at a place, and passes once at most, passes nowhere before
alone : (p : SlotState → Bool) (slots : List SlotState) (place k : ℕ) → place < length slots → p (get_or slots place Free) ≡ true
    → count_by p slots ≤ 1 → k < place → p (get_or slots k Free) ≡ false
alone p slots place k within passes one before = by_test (p (get_or slots k Free)) refl
  where
    by_test : (t : Bool) → t ≡ p (get_or slots k Free) → p (get_or slots k Free) ≡ false
    by_test false e = sym e
    by_test true e =
        let weight : SlotState → ℕ = λ s. cond {A = ℕ} (p s) 1 0 in
        let all = sum_by_more_le weight slots place Free within in
        let here : weight (get_or slots place Free) ≡ 1 = ap (λ b. cond {A = ℕ} b 1 0) passes in
        let many = length-take-le place slots (omega arith) in
        let earlier = get_or-le-sum_by weight (take place slots) k Free (omega arith) in
        let there : weight (get_or (take place slots) k Free) ≡ 1 =
        ap weight (get_or-take place slots k Free before) ∙ ap (λ b. cond {A = ℕ} b 1 0) (sym e) in
        absurd (omega arith)

-- the place of what passes once at most
position-alone : (p : SlotState → Bool) (slots : List SlotState) (place : ℕ) → place < length slots → p (get_or slots place Free) ≡ true
    → count_by p slots ≤ 1 → position p slots ≡ Some place
position-alone p slots place within passes one =
    let first : position_or_len p slots ≡ place =
    position_or_len_is p slots place Free (omega arith) (λ k before. alone p slots place k within passes one before) (λ inside. passes) in
    rw (first, lt-ltb place (length slots) within) refl

-- what passes somewhere has a first place
first-within : (p : SlotState → Bool) (slots : List SlotState) → 1 ≤ count_by p slots → position_or_len p slots < length slots
first-within p [] some = absurd (omega arith)
first-within p (state ∷ slots) some = by_test (p state) refl (first-within p slots)
  where
    by_test : (t : Bool) → t ≡ p state → (1 ≤ count_by p slots → position_or_len p slots < length slots)
        → position_or_len p (state ∷ slots) < length (state ∷ slots)
    by_test true e rest = rw (sym e) (omega arith)
    by_test false e rest =
        let all = sum_by-cons (λ s. cond {A = ℕ} (p s) 1 0) state slots in
        let none : cond {A = ℕ} (p state) 1 0 ≡ 0 = ap (λ b. cond {A = ℕ} b 1 0) (sym e) in
        let behind = rest (omega arith) in
        rw (sym e) (omega arith)

pub slot_of-holder : (lives : Lives) (slot query built : ℕ) → AreSoundLives lives → slot < length lives.slots
    → slot_at lives slot ≡ Held query built → slot_of lives query ≡ Some slot
slot_of-holder lives slot query built sound within holds =
    position-alone (is_held_by query) lives.slots slot within
    (ap (is_held_by query) holds ∙ eq-eqb query query refl) (fits-one (life_in lives.queries query) _ (sound.held query))

pub built_of-holder : (lives : Lives) (slot query built : ℕ) → AreSoundLives lives → slot < length lives.slots
    → slot_at lives slot ≡ Held query built → built_of lives query ≡ built
built_of-holder lives slot query built sound within holds =
    ap (λ first. option_map_or (λ s. built_in (slot_at lives s)) first 0) (slot_of-holder lives slot query built sound within holds)
    ∙ ap built_in holds

-- a query that has begun holds a slot
begun-holds : (life : Option Life) (held : ℕ) → IsTrue (option_map_or is_begun life false) → FitsSlots life held → 1 ≤ held
begun-holds (Some Building) held begun fits = omega arith
begun-holds (Some (Running start left)) held begun fits = omega arith
begun-holds (Some Ending) held begun fits = omega arith
begun-holds other held begun fits = cc

pub slot_of-begun : (lives : Lives) (query : ℕ) → AreSoundLives lives → CanSpoil query lives → IsSome (slot_of lives query)
slot_of-begun lives query sound begun =
    let some = begun-holds (life_in lives.queries query) _ begun (sound.held query) in
    rw (lt-ltb (position_or_len (is_held_by query) lives.slots) (length lives.slots) (first-within (is_held_by query) lives.slots some)) refl
