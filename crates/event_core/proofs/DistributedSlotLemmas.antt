-- Which queries hold the slots that have groups, and what a query has at its slot.
use Rattle.event_core.proofs.Words.{◌∙◌, ◌∷◌, ◌≡◌, [], Accepted, accepted_at, after_stop, All, ap, AreAttached, arith, attached-count, attached-get, attached_for, attached_to, bit_at, Bool, CanSpoil, cond, cons_option, eqb, eqb-true, false, fed_in, filter_map, get_or, gets, gets_rows, Grouped, holder_of, holders_in, holds-slot, is_begun, IsSome, IsSound, IsTrue, kept-none, kept_by, length, Life, life_of, List, Lives, None, Option, option_and_then, option_map_or, range_with_len, refl, Scanning, slot_at, slot_of, slot_of-begun, Some, State, stopped_for, subst, true, ℕ}
use Rattle.std.specs.List.{fold}
use Rattle.pipeline_manager.specs.declared.life.Life.TheVariants as life
use Rattle.core_state.specs.Handed.{fed_at}
use Rattle.core_state.proofs.HandedSlotLemmas.{all-fed, fed-holds, kept-some}

-- what is found the same of each number is the same in all
same-found : (f g : ℕ → Option ℕ) (xs : List ℕ) → ((x : ℕ) → f x ≡ g x) → filter_map f xs ≡ filter_map g xs
same-found f g [] same = refl
same-found f g (x ∷ xs) same = ap (λ o. cons_option o (filter_map f xs)) (same x) ∙ ap (cons_option (g x)) (same-found f g xs same)

-- what holds a slot that has groups gets rows
held-fed : (state : State) (holder : Option ℕ) → IsSome (kept_by state holder)
    → holder ≡ option_and_then (λ query. cond {A = Option ℕ} (gets state.lives query) (Some query) None) holder
held-fed state None some = refl
held-fed state (Some query) some = by_test (gets state.lives query) refl
  where
    by_test : (t : Bool) → gets state.lives query ≡ t → Some query ≡ cond {A = Option ℕ} t (Some query) None
    by_test true yet = refl
    by_test false none = absurd (let both : false ≡ true = subst IsSome (kept-none state query none) some in cc)

-- the queries that hold slots that have groups are those that get rows there
pub held-are-fed : (state : State) (slots : ℕ) → AreAttached slots (attached_to state) → holders_in state.lives slots ≡ fed_in state slots
held-are-fed state slots attached =
    same-found
    (λ slot. cond {A = Option ℕ} (eqb (bit_at slots slot) 1) (holder_of (slot_at state.lives slot)) None)
    (λ slot. cond {A = Option ℕ} (eqb (bit_at slots slot) 1) (fed_at state slot) None)
    (range_with_len 0 (length state.lives.slots)) (λ slot. by_test slot (eqb (bit_at slots slot) 1) refl)
  where
    by_test : (slot : ℕ) (t : Bool) → eqb (bit_at slots slot) 1 ≡ t
        → cond {A = Option ℕ} t (holder_of (slot_at state.lives slot)) None ≡ cond {A = Option ℕ} t (fed_at state slot) None
    by_test slot true has =
        let here = attached slot (eqb-true (bit_at slots slot) 1 has) in
        let many = attached-count state in
        let low = here.1 in
        held-fed state (holder_of (slot_at state.lives slot)) (subst IsSome (attached-get state slot (omega arith)) here.0)
    by_test slot false none = refl

-- a query that gets rows may be spoiled
gets-begun : (o : Option Life) → option_map_or gets_rows o false ≡ true → IsTrue (option_map_or is_begun o false)
gets-begun (Some life.Building) yet = refl
gets-begun (Some (life.Running start left)) yet = refl
gets-begun (Some life.Ending) yet = refl
gets-begun other yet = yet

-- the queries of slots that get rows do
pub fed-get : (state : State) (slots : ℕ) → All (λ query. gets state.lives query ≡ true) (fed_in state slots)
fed-get state slots = all-fed (λ query. gets state.lives query ≡ true) state slots (λ slot number has is. (fed-holds state slot number is).2)

-- so they may be spoiled
pub fed-begun : (state : State) (slots : ℕ) → All (λ query. CanSpoil query state.lives) (fed_in state slots)
fed-begun state slots k d low = gets-begun (life_of state.lives (get_or (fed_in state slots) k d)) (fed-get state slots k d low)

-- at the slot of an accepted query is attached what is kept of it, where it gets rows, and else nothing
pub attached-shown : (state : State) → IsSound state → (accepted : Accepted) → accepted_at state.accepted accepted.number ≡ Some accepted
    → attached_for state.lives (attached_to state) accepted.number ≡ cond {A = Option Grouped} (gets state.lives accepted.number) accepted.groups None
attached-shown state sound accepted found = by_place (slot_of state.lives accepted.number) refl
  where
    shown : (t : Bool) → gets state.lives accepted.number ≡ t → kept_by state (Some accepted.number) ≡ cond {A = Option Grouped} t accepted.groups None
    shown true yet = kept-some state accepted.number yet ∙ ap (λ o. option_map_or (λ a. a.groups) o None) found
    shown false none = kept-none state accepted.number none

    unheld : slot_of state.lives accepted.number ≡ None → (t : Bool) → gets state.lives accepted.number ≡ t
        → None ≡ cond {A = Option Grouped} t accepted.groups None
    unheld place true yet = absurd (let both : false ≡ true = subst IsSome place
        (slot_of-begun state.lives accepted.number sound.slots.lives (gets-begun (life_of state.lives accepted.number) yet)) in cc)
    unheld place false none = refl

    by_place : (o : Option ℕ) → slot_of state.lives accepted.number ≡ o
        → option_and_then (λ slot. get_or (attached_to state) slot None) o ≡ cond {A = Option Grouped} (gets state.lives accepted.number) accepted.groups None
    by_place None place = unheld place (gets state.lives accepted.number) refl
    by_place (Some slot) place =
        let held = holds-slot state.lives accepted.number slot place in
        attached-get state slot held.1
        ∙ ap (λ s. kept_by state (holder_of s)) held.2
        ∙ shown (gets state.lives accepted.number) refl

-- a scan that stops what runs for queries stands where it stood
pub stopped-stands : (lives : Lives) (queries : List ℕ) (scan : Scanning)
    → (fold (λ now query. stopped_for lives query now) scan queries).position ≡ scan.position
stopped-stands lives [] scan = refl
stopped-stands lives (query ∷ queries) scan = stopped-stands lives queries (stopped_for lives query scan) ∙ by_place (slot_of lives query)
  where
    by_place : (o : Option ℕ) → (option_map_or (λ slot. after_stop slot scan) o scan).position ≡ scan.position
    by_place None = refl
    by_place (Some slot) = refl
