-- What is attached for queries where one slot has other groups, or is taken from its query.
use Rattle.event_core.proofs.Words.{◌∙◌, ◌≡◌, ◌≢◌, after_end, Answered, ap, arith, attached_for, Bool, cases_eq, cases_lt, Clearing, cond, detached_for, false, Free, get_or, get_or-set_other, get_or-set_same, get_or_past, Grouped, Held, held-there, holds-slot, is_held_by, length, length-set, life_in, List, Lives, ne_eqb, None, one-slot, Option, option_and_then, option_map_or, position, position_or_len, position_or_len-set, QueryLife, reaches_in, refl, set, slot_at, slot_of, slot_of-holder, Some, sym, true, with_life, ℕ, ⊎_elim}
use Rattle.std.specs.Prelude.{nat_lt}
use Rattle.pipeline_manager.specs.Changes.{given_up, is_ending}
use Rattle.pipeline_manager.specs.Sound as managed
use Rattle.event_core.proofs.AskedKeptLemmas.{LeavesOthers}
use Rattle.event_core.proofs.SeenLemmas.{reaches-with_life}

-- the first place that passes, where another element is written that passes as the one before
position-set : {X : Type 0} (p : X → Bool) (xs : List X) (place : ℕ) (x d : X) → p x ≡ p (get_or xs place d)
    → position p (set xs place x) ≡ position p xs
position-set {X = X} p xs place x d same =
    ap (λ n. at n (length (set xs place x))) (position_or_len-set p xs place x d same)
    ∙ ap (at (position_or_len p xs)) (length-set xs place x)
  where
    at : ℕ → ℕ → Option ℕ
    at n many = cond {A = Option ℕ} (nat_lt n many) (Some n) None

-- what is attached at the place of a query, if it has one
abbrev at_place : (attached : List (Option Grouped)) → Option ℕ → Option Grouped
at_place attached place = option_and_then (λ slot. get_or attached slot None) place

-- the groups of the slot that a query holds
pub attached-here : (lives : Lives) (attached : List (Option Grouped)) (query slot : ℕ) → slot_of lives query ≡ Some slot
    → attached_for lives attached query ≡ get_or attached slot None
attached-here lives attached query slot place = ap (at_place attached) place

-- other groups at the slot of one query are none of another's
pub attached-elsewhere : (lives : Lives) (attached : List (Option Grouped)) (slot : ℕ) (groups : Option Grouped) (query : ℕ)
    → slot_of lives query ≡ Some slot → LeavesOthers lives lives attached (set attached slot groups) query
attached-elsewhere lives attached slot groups query place number apart = by_place (slot_of lives number) refl
  where
    by_place : (o : Option ℕ) → slot_of lives number ≡ o → at_place (set attached slot groups) o ≡ at_place attached o
    by_place None is = refl
    by_place (Some other) is = get_or-set_other attached slot other groups None (λ same.
        let here = holds-slot lives query slot place in
        let there = holds-slot lives number other is in
        let both : Held query here.0 ≡ Held number there.0 = sym here.2 ∙ ap (slot_at lives) (sym same) ∙ there.2 in
        apart cc)

-- nothing is attached where it was detached
detached-get : (attached : List (Option Grouped)) (slot : ℕ) → get_or (set attached slot None) slot None ≡ None
detached-get attached slot = ⊎_elim
    (λ low. get_or-set_same attached slot None None low)
    (λ past. get_or_past (set attached slot None) slot None (let many = length-set attached slot None in omega arith))
    (cases_lt slot (length attached))

-- nothing is attached for a query whose groups were detached
pub detached-here : (lives : Lives) (attached : List (Option Grouped)) (query : ℕ)
    → attached_for lives (detached_for lives query attached) query ≡ None
detached-here lives attached query = by_place (slot_of lives query)
  where
    by_place : (o : Option ℕ) → at_place (option_map_or (λ slot. set attached slot None) o attached) o ≡ None
    by_place None = refl
    by_place (Some slot) = detached-get attached slot

-- the others keep theirs
pub detached-elsewhere : (lives : Lives) (attached : List (Option Grouped)) (query : ℕ)
    → LeavesOthers lives lives attached (detached_for lives query attached) query
detached-elsewhere lives attached query number apart = by_place (slot_of lives query) refl
  where
    by_place : (o : Option ℕ) → slot_of lives query ≡ o
        → attached_for lives (option_map_or (λ slot. set attached slot None) o attached) number ≡ attached_for lives attached number
    by_place None place = refl
    by_place (Some slot) place = attached-elsewhere lives attached slot None query place number apart

-- lives of which a slot is to be cleared
abbrev with_clearing : (slot built : ℕ) → Lives → Lives
with_clearing slot built lives = record lives { slots = set lives.slots slot (Clearing built) }

-- a query that held it holds none
cleared-none : (lives : Lives) (slot query built : ℕ) → managed.AreSoundLives lives → slot_at lives slot ≡ Held query built
    → slot_of (with_clearing slot built lives) query ≡ None
cleared-none lives slot query built sound holds = by_place (slot_of (with_clearing slot built lives) query) refl
  where
    by_place : (o : Option ℕ) → slot_of (with_clearing slot built lives) query ≡ o → o ≡ None
    by_place None is = refl
    by_place (Some other) is = absurd (
        let held = holds-slot (with_clearing slot built lives) query other is in
        ⊎_elim
        (λ same. let both : Clearing built ≡ Held query held.0 =
        sym (get_or-set_same lives.slots slot (Clearing built) Free (held-there lives slot query built holds))
        ∙ ap (slot_at (with_clearing slot built lives)) (sym same) ∙ held.2 in cc)
        (λ apart. apart (one-slot lives sound other slot query held.0 built
        (sym (get_or-set_other lives.slots slot other (Clearing built) Free apart) ∙ held.2) holds))
        (cases_eq other slot))

-- the others hold theirs
cleared-others : (lives : Lives) (slot query built number : ℕ) → slot_at lives slot ≡ Held query built → number ≢ query
    → slot_of (with_clearing slot built lives) number ≡ slot_of lives number
cleared-others lives slot query built number holds apart =
    position-set (is_held_by number) lives.slots slot (Clearing built) Free
    (sym (ap (is_held_by number) holds ∙ ne_eqb query number (λ same. apart (sym same))))

-- the slots where one is finished
ended-slots : (lives : Lives) (slot query built : ℕ) → slot_at lives slot ≡ Held query built
    → (after_end slot lives).slots ≡ set lives.slots slot (Clearing built)
ended-slots lives slot query built holds = ap (λ now. (given_up slot now lives).slots) holds

-- nothing is attached for the query of a slot that is finished
pub ended-here : (lives : Lives) (attached : List (Option Grouped)) (slot query built : ℕ) → managed.AreSoundLives lives
    → slot_at lives slot ≡ Held query built → attached_for (after_end slot lives) (set attached slot None) query ≡ None
ended-here lives attached slot query built sound holds =
    ap (λ slots. attached_for (record lives { slots = slots }) (set attached slot None) query) (ended-slots lives slot query built holds)
    ∙ ap (at_place (set attached slot None)) (cleared-none lives slot query built sound holds)

-- the others keep theirs
pub ended-elsewhere : (lives : Lives) (attached : List (Option Grouped)) (slot query built : ℕ) → managed.AreSoundLives lives
    → slot_at lives slot ≡ Held query built → LeavesOthers lives (after_end slot lives) attached (set attached slot None) query
ended-elsewhere lives attached slot query built sound holds number apart =
    ap (λ slots. attached_for (record lives { slots = slots }) (set attached slot None) number) (ended-slots lives slot query built holds)
    ∙ ap (at_place (set attached slot None)) (cleared-others lives slot query built number holds apart)
    ∙ attached-elsewhere lives attached slot None query
    (slot_of-holder lives slot query built sound (held-there lives slot query built holds) holds) number apart

-- queries go as far as before
pub ended-reaches : (lives : Lives) (slot query built : ℕ) → slot_at lives slot ≡ Held query built
    → reaches_in (after_end slot lives).queries ≡ reaches_in lives.queries
ended-reaches lives slot query built holds =
    ap (λ now. reaches_in (given_up slot now lives).queries) holds
    ∙ by_test (option_map_or is_ending (life_in lives.queries query) false)
  where
    by_test : (t : Bool) → reaches_in (cond {A = List QueryLife} t (with_life query Answered lives.queries) lives.queries)
        ≡ reaches_in lives.queries
    by_test true = reaches-with_life query Answered lives.queries
    by_test false = refl
