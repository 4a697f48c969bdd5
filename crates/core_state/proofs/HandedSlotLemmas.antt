-- Which queries hold the slots that found no memory, and what becomes of their lives.
use Rattle.core_state.proofs.Words.{◌+◌, ◌<◌, ◌∙◌, ◌≡◌, ◌≢◌, [], All, AllPairs, AllPairs-cons, ap, arith, bit_at, Bool, cond, cons_option, eq-eqb, eqb, eqb-true, false, fed_at, fed_in, filter_map, Free, get_or, get_or-range_with_len, gets_rows, Grouped, groups_in, Held, holder_of, length, length-range_with_len, Life, life_of, List, list_any, list_any_at, Lives, ne_eqb, None, Option, option_and_then, option_map_or, range_with_len, refl, same_Some, slot_at, slot_of-holder, Some, State, subst, suc, sym, true, zero, ℕ}
use Rattle.std.proofs.lemmas.List.Folds.{list_any_none}
use Rattle.std.proofs.lemmas.Option.{cond_some, option_and_then_some}
use Rattle.pipeline_manager.specs.Sound as managed
use Rattle.core_state.proofs.CutFoundLemmas.{all-below, all-found, found-below, none-all}
use Rattle.core_state.proofs.HeldLemmas.{slot-there}
use Rattle.core_state.proofs.ReleaseLemmas.{none-in}
use Rattle.core_state.proofs.ScannedLifeLemmas.{holder-held, life-renewed, lives_with}

-- what is found of different numbers is different
found-apart : (f : ℕ → Option ℕ) → ((a b x : ℕ) → f a ≡ Some x → f b ≡ Some x → a ≡ b) → (count first : ℕ)
    → AllPairs (λ x y. x ≢ y) (filter_map f (range_with_len first count))
found-apart f apart zero first = λ i j d before low. absurd (omega arith)
found-apart f apart (suc count) first = by_option (f first) refl (found-apart f apart count (first + 1))
  where
    rest : List ℕ
    rest = filter_map f (range_with_len (first + 1) count)

    others : (x : ℕ) → f first ≡ Some x → All (λ y. x ≢ y) rest
    others x is = all-found f (λ y. x ≢ y) (range_with_len (first + 1) count) (λ k d low y found same.
        let inside : k < count = omega (arith, length-range_with_len (first + 1) count) in
        let at : get_or (range_with_len (first + 1) count) k d ≡ first + 1 + k = get_or-range_with_len (first + 1) count k d inside in
        let place : first ≡ get_or (range_with_len (first + 1) count) k d = apart first (get_or (range_with_len (first + 1) count) k d) x is (found ∙ ap Some (sym same)) in
        absurd (omega arith))

    by_option : (o : Option ℕ) → f first ≡ o → AllPairs (λ x y. x ≢ y) rest → AllPairs (λ x y. x ≢ y) (cons_option o rest)
    by_option None is apart_rest = apart_rest
    by_option (Some x) is apart_rest = AllPairs-cons (λ y z. y ≢ z) x rest (others x is) apart_rest

-- Who holds a slot.

-- a slot that is held is there
pub held-there : (lives : Lives) (slot query built : ℕ) → slot_at lives slot ≡ Held query built → slot < length lives.slots
held-there lives slot query built holds = slot-there lives.slots slot (λ is. let both : Free ≡ Held query built = sym is ∙ holds in cc)

-- a query holds one slot at most
pub one-slot : (lives : Lives) → managed.AreSoundLives lives → (slot other query built rest : ℕ)
    → slot_at lives slot ≡ Held query built → slot_at lives other ≡ Held query rest → slot ≡ other
one-slot lives sound slot other query built rest holds also = same_Some slot other
    (sym (slot_of-holder lives slot query built sound (held-there lives slot query built holds) holds)
    ∙ slot_of-holder lives other query rest sound (held-there lives other query rest also) also)

-- whether a query of this number gets rows
abbrev pub gets : Lives → (number : ℕ) → Bool
gets lives number = option_map_or gets_rows (life_of lives number) false

-- by a life that gets no rows a query gets none
pub gets-none : (lives : Lives) (query : ℕ) (new : Life) → gets_rows new ≡ false → gets (lives_with query new lives) query ≡ false
gets-none lives query new none = life-renewed (λ o. option_map_or gets_rows o false ≡ false) lives query new refl none

-- what is kept for the holder of a slot, where it gets rows
abbrev pub kept_by : State → Option ℕ → Option Grouped
kept_by core holder = option_and_then (groups_in core)
    (option_and_then (λ query. cond {A = Option ℕ} (gets core.lives query) (Some query) None) holder)

-- nothing is attached for a query that gets no rows
pub kept-none : (state : State) (query : ℕ) → gets state.lives query ≡ false → kept_by state (Some query) ≡ None
kept-none state query none = ap (λ t. option_and_then (groups_in state) (cond {A = Option ℕ} t (Some query) None)) none

-- and what is kept for one that does
pub kept-some : (state : State) (query : ℕ) → gets state.lives query ≡ true → kept_by state (Some query) ≡ groups_in state query
kept-some state query yet = ap (λ t. option_and_then (groups_in state) (cond {A = Option ℕ} t (Some query) None)) yet

-- the query at a slot that gets rows holds it
pub fed-holds : (state : State) (slot number : ℕ) → fed_at state slot ≡ Some number
    → (built : ℕ) × (slot_at state.lives slot ≡ Held number built) × (gets state.lives number ≡ true)
fed-holds state slot number is =
    option_and_then_some (λ n. cond {A = Option ℕ} (gets state.lives n) (Some n) None) (holder_of (slot_at state.lives slot)) number is (λ query holder found.
    let both = cond_some (gets state.lives query) query number found in
    let held = holder-held number (slot_at state.lives slot) (holder ∙ ap Some both.1) in
    (held.0, held.1, subst (λ n. gets state.lives n ≡ true) both.1 both.0))

-- and who holds it and gets rows is the query there
pub holds-fed : (state : State) (slot number built : ℕ) → slot_at state.lives slot ≡ Held number built → gets state.lives number ≡ true
    → fed_at state slot ≡ Some number
holds-fed state slot number built holds yet =
    ap (λ s. option_and_then (λ n. cond {A = Option ℕ} (gets state.lives n) (Some n) None) (holder_of s)) holds
    ∙ ap (λ t. cond {A = Option ℕ} t (Some number) None) yet

-- the query of a slot, where the slot is in a set
abbrev pub fed_of : State → (slots slot : ℕ) → Option ℕ
fed_of state slots slot = cond {A = Option ℕ} (eqb (bit_at slots slot) 1) (fed_at state slot) None

pub of-holds : (state : State) (slots slot number : ℕ) → fed_of state slots slot ≡ Some number
    → (bit_at slots slot ≡ 1) × (fed_at state slot ≡ Some number)
of-holds state slots slot number is = by_test (eqb (bit_at slots slot) 1) refl is
  where
    by_test : (t : Bool) → eqb (bit_at slots slot) 1 ≡ t → cond {A = Option ℕ} t (fed_at state slot) None ≡ Some number
        → (bit_at slots slot ≡ 1) × (fed_at state slot ≡ Some number)
    by_test true has e = (eqb-true (bit_at slots slot) 1 has, e)
    by_test false has e = cc

-- the queries of a set of slots are different
pub fed-apart : (state : State) → managed.AreSoundLives state.lives → (slots : ℕ) → AllPairs (λ query other. query ≢ other) (fed_in state slots)
fed-apart state sound slots = found-apart (fed_of state slots) same (length state.lives.slots) 0
  where
    same : (a b number : ℕ) → fed_of state slots a ≡ Some number → fed_of state slots b ≡ Some number → a ≡ b
    same a b number here there =
        let one = fed-holds state a number (of-holds state slots a number here).1 in
        let other = fed-holds state b number (of-holds state slots b number there).1 in
        one-slot state.lives sound a b number one.0 other.0 one.1 other.1

-- what holds of the query of each slot of a set
pub all-fed : (P : ℕ → Type 0) (state : State) (slots : ℕ)
    → ((slot number : ℕ) → bit_at slots slot ≡ 1 → fed_at state slot ≡ Some number → P number) → All P (fed_in state slots)
all-fed P state slots each = all-found (fed_of state slots) P (range_with_len 0 (length state.lives.slots))
    (all-below (λ slot. (number : ℕ) → fed_of state slots slot ≡ Some number → P number) (length state.lives.slots)
    (λ slot low number is. let both = of-holds state slots slot number is in each slot number both.0 both.1))

-- no slot has no query
pub none-fed : (state : State) → fed_in state 0 ≡ []
none-fed state = none-all (fed_in state 0) (all-fed (λ number. ⊥) state 0 (λ slot number has is. none-in slot has))

-- the query of a slot of the set is one of them
pub fed-among : (state : State) (slots slot number : ℕ) → bit_at slots slot ≡ 1 → fed_at state slot ≡ Some number
    → list_any (λ other. eqb other number) (fed_in state slots) ≡ true
fed-among state slots slot number has is =
    let holds = fed-holds state slot number is in
    let there = found-below (fed_of state slots) (length state.lives.slots) slot number (held-there state.lives slot number holds.0 holds.1)
    (ap (λ t. cond {A = Option ℕ} t (fed_at state slot) None) (eq-eqb (bit_at slots slot) 1 has) ∙ is) in
    list_any_at (λ other. eqb other number) (fed_in state slots) there.0 number there.1 (eq-eqb (get_or (fed_in state slots) there.0 number) number there.2)

-- and that of another slot is not
pub not-among : (state : State) → managed.AreSoundLives state.lives → (slots slot number built : ℕ) → slot_at state.lives slot ≡ Held number built
    → eqb (bit_at slots slot) 1 ≡ false → list_any (λ other. eqb other number) (fed_in state slots) ≡ false
not-among state sound slots slot number built holds none =
    list_any_none (λ other. eqb other number) (fed_in state slots)
    (all-fed (λ other. eqb other number ≡ false) state slots (λ place other has is. ne_eqb other number (λ same.
    let there = fed-holds state place other is in
    let here : place ≡ slot = one-slot state.lives sound place slot number there.0 built (there.1 ∙ ap (λ n. Held n there.0) same) holds in
    let both : true ≡ false = sym (eq-eqb (bit_at slots slot) 1 (ap (bit_at slots) (sym here) ∙ has)) ∙ none in cc)))
