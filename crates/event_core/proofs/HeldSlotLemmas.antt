-- What is attached for a query, by the slot that it holds.
use Rattle.event_core.proofs.Words.{◌∙◌, ◌≡◌, ◌≢◌, All, ap, AskedQuery, attached-get, attached_for, attached_to, Bool, cond, false, Free, get_or, gets, Grouped, Held, holder_of, holds-slot, is_held_by, IsSome, kept-none, kept_by, length, length-set, List, Lives, ne_eqb, None, Option, option_and_then, position_or_len, position_or_len-set, refl, set, slot_at, slot_of, SlotState, Some, State, subst, sym, with_slot, ℕ}
use Rattle.std.proofs.Common.{ltb, position}

-- the first place of what passes stays where a place is written over by what passes as it did
position-set : {A : Type 0} (p : A → Bool) (list : List A) (place : ℕ) (new d : A) → p new ≡ p (get_or list place d)
    → position p (set list place new) ≡ position p list
position-set {A = A} p list place new d same =
    ap (λ (n : ℕ). cond {A = Option ℕ} (ltb n (length (set list place new))) (Some n) None) (position_or_len-set p list place new d same)
    ∙ ap (λ (n : ℕ). cond {A = Option ℕ} (ltb (position_or_len p list) n) (Some (position_or_len p list)) None) (length-set list place new)

-- a query holds the slot that it held where a slot is written over by one that it holds as before
pub slot_of-written : (lives : Lives) (slot query : ℕ) (new : SlotState) → is_held_by query new ≡ is_held_by query (slot_at lives slot)
    → slot_of (with_slot slot new lives) query ≡ slot_of lives query
slot_of-written lives slot query new same = position-set (is_held_by query) lives.slots slot new Free same

-- so the same is attached for it
pub attached_for-written : (lives : Lives) (attached : List (Option Grouped)) (slot query : ℕ) (new : SlotState)
    → is_held_by query new ≡ is_held_by query (slot_at lives slot)
    → attached_for (with_slot slot new lives) attached query ≡ attached_for lives attached query
attached_for-written lives attached slot query new same =
    ap (option_and_then (λ place. get_or attached place None)) (slot_of-written lives slot query new same)

-- to another query a slot that is held by one is as a slot that is Free
pub held-by_other : (query other built : ℕ) → other ≢ query → is_held_by other (Held query built) ≡ is_held_by other Free
held-by_other query other built apart = ne_eqb query other (λ same. apart (sym same))

-- what is attached for the query that holds a slot
pub attached_for-held : (state : State) (query slot : ℕ) → slot_of state.lives query ≡ Some slot
    → attached_for state.lives (attached_to state) query ≡ kept_by state (Some query)
attached_for-held state query slot is =
    let held = holds-slot state.lives query slot is in
    ap (option_and_then (λ place. get_or (attached_to state) place None)) is
    ∙ attached-get state slot held.1
    ∙ ap (λ now. kept_by state (holder_of now)) held.2

-- nothing is attached for a query that gets no rows
pub attached_for-none : (state : State) (query : ℕ) → gets state.lives query ≡ false
    → attached_for state.lives (attached_to state) query ≡ None
attached_for-none state query none = by_slot (slot_of state.lives query) refl
  where
    by_slot : (o : Option ℕ) → slot_of state.lives query ≡ o → attached_for state.lives (attached_to state) query ≡ None
    by_slot None is = ap (option_and_then (λ place. get_or (attached_to state) place None)) is
    by_slot (Some slot) is = attached_for-held state query slot is ∙ kept-none state query none

-- nothing is kept beside what is attached where the same is attached for each query
pub beside-same : (lives other : Lives) (attached others : List (Option Grouped)) (asked : List AskedQuery)
    → ((query : ℕ) → attached_for other others query ≡ attached_for lives attached query)
    → All (λ entry. IsSome (attached_for lives attached entry.number) → entry.kept ≡ None) asked
    → All (λ entry. IsSome (attached_for other others entry.number) → entry.kept ≡ None) asked
beside-same lives other attached others asked same beside = λ place d low some.
    beside place d low (subst IsSome (same (get_or asked place d).number) some)
