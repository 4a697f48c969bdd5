-- How the holders of the slots are gone through, one after the other.
use Rattle.event_core.proofs.Words.{◌++◌, ◌+◌, ◌-◌, ◌<◌, ◌∙◌, ◌∷◌, ◌≡◌, ◌≤◌, [], after_spoil, after_stop, All, All-contains, All-head, All-nil, All-tail, ap, append-nil, arith, bit_at, Bool, CanSpoil, cases_eq, cond, cons_option, eqb, false, filter_map, filter_map-append, fold-append, Free, get_or, get_or-range_with_len, get_or-set_other, get_or-set_same, Has, Held, holder_of, holders_in, IfSome, is_begun, is_held_by, IsTrue, length, length-range_with_len, length-set, life_of, List, list_any, list_any_none, Lives, ne_eqb, None, one-slot, Option, option_map_or, others-stay, position, range_parts, range_with_len, refl, Scanning, set, slot_at, slot_of, slot_of-holder, Some, some-by, stopped_for, subst, suc, sym, true, zero, ℕ, ⊎_elim}
use Rattle.std.proofs.Common.{◌↔◌, unwrap_or}
use Rattle.std.specs.List.{fold}
use Rattle.pipeline_manager.specs.Sound as managed
use Rattle.core_state.proofs.CutFoundLemmas.{found-below}
use Rattle.core_state.proofs.HandedLivesLemmas.{slots-stay, spoiled_all}
use Rattle.core_state.proofs.ScannedLifeLemmas.{holder-held}
use Rattle.core_state.proofs.TakeLemmas.{All-option}

-- a list that has what is asked for up to a place, and then at the place
pub written-more : (f : ℕ → ℕ) (xs : List ℕ) (place x : ℕ) → place < length xs → x ≡ f place
    → ((k : ℕ) → k < place → get_or xs k 0 ≡ f k) → (k : ℕ) → k < place + 1 → get_or (set xs place x) k 0 ≡ f k
written-more f xs place x low is before k under = ⊎_elim
    (λ here. ap (λ n. get_or (set xs place x) n 0) here ∙ get_or-set_same xs place x 0 low ∙ is ∙ ap f (sym here))
    (λ apart. get_or-set_other xs place k x 0 apart ∙ before k (omega arith))
    (cases_eq k place)

-- what holds of what is found of each holds of all that are found
all-found : (P : ℕ → Type 0) (f : ℕ → Option ℕ) (xs : List ℕ) → All (λ x. IfSome (f x) P) xs → All P (filter_map f xs)
all-found P f [] all = All-nil P
all-found P f (x ∷ xs) all =
    All-option P (f x) (filter_map f xs) (All-head (λ y. IfSome (f y) P) x xs all)
    (all-found P f xs (All-tail (λ y. IfSome (f y) P) x xs all))

-- what holds a slot, where the slot is in a set
abbrev pub held_of : Lives → (slots slot : ℕ) → Option ℕ
held_of lives slots slot = cond {A = Option ℕ} (eqb (bit_at slots slot) 1) (holder_of (slot_at lives slot)) None

-- a slot of the set is held by what is found
in-set : (t : Bool) (holder : Option ℕ) (query : ℕ) → cond {A = Option ℕ} t holder None ≡ Some query → holder ≡ Some query
in-set true holder query is = is
in-set false holder query is = cc

-- the queries that hold the slots of a set below one
abbrev pub held_below : Lives → (slots slot : ℕ) → List ℕ
held_below lives slots slot = filter_map (held_of lives slots) (range_with_len 0 slot)

-- they are those of the slots below it, and the one that holds it
held-more : (lives : Lives) (slots slot : ℕ)
    → held_below lives slots (slot + 1) ≡ held_below lives slots slot ++ cons_option (held_of lives slots slot) []
held-more lives slots slot =
    ap (filter_map (held_of lives slots)) (range_parts 0 slot 1 (slot + 1) slot refl (omega arith))
    ∙ filter_map-append (held_of lives slots) (range_with_len 0 slot) (slot ∷ [])

-- what is made of them all is made of those below it and then of that one
made-more : {B : Type 0} (f : B → ℕ → B) (start now : B) (lives : Lives) (slots slot : ℕ) (holder : Option ℕ)
    → held_of lives slots slot ≡ holder → now ≡ fold f start (held_below lives slots slot)
    → option_map_or (f now) holder now ≡ fold f start (held_below lives slots (slot + 1))
made-more f start now lives slots slot holder is so_far =
    one holder
    ∙ ap (λ b. fold f b (cons_option holder [])) so_far
    ∙ sym (ap (fold f start) (held-more lives slots slot ∙ ap (λ o. held_below lives slots slot ++ cons_option o []) is)
    ∙ fold-append f start (held_below lives slots slot) (cons_option holder []))
  where
    one : (o : Option ℕ) → option_map_or (f now) o now ≡ fold f now (cons_option o [])
    one None = refl
    one (Some query) = refl

-- the queries that hold the slots of a set below one have no answer, and run no more
pub record AreSpoiledBelow (lives : Lives) (scan : Scanning) (slots slot : ℕ) (now : Lives) (left : Scanning) : Type 0 where
  pub spoiled : now ≡ spoiled_all (held_below lives slots slot) lives
  pub stopped : left ≡ fold (λ before query. stopped_for lives query before) scan (held_below lives slots slot)

-- a scan that stops what runs for queries has as many slots
stopped-count : (lives : Lives) (queries : List ℕ) (scan : Scanning)
    → length (fold (λ now query. stopped_for lives query now) scan queries).running ≡ length scan.running
stopped-count lives [] scan = refl
stopped-count lives (query ∷ queries) scan = stopped-count lives queries (stopped_for lives query scan) ∙ by_place (slot_of lives query)
  where
    by_place : (o : Option ℕ) → length (option_map_or (λ slot. after_stop slot scan) o scan).running ≡ length scan.running
    by_place None = refl
    by_place (Some slot) = length-set scan.running slot None

-- lives and a scan so far
module _ (lives : Lives) (scan : Scanning) (slots slot : ℕ) (now : Lives) (left : Scanning) (so_far : AreSpoiledBelow lives scan slots slot now left) where
  -- the slots are as they were
  pub slots-same : now.slots ≡ lives.slots
  slots-same = ap (λ l. l.slots) so_far.spoiled ∙ slots-stay (held_below lives slots slot) lives

  -- and as many are in the scan
  pub running-same : length left.running ≡ length scan.running
  running-same = ap (λ (s : Scanning). length s.running) so_far.stopped ∙ stopped-count lives (held_below lives slots slot) scan

  -- so is what holds them
  held-same : held_of now slots slot ≡ held_of lives slots slot
  held-same = ap (λ all. cond {A = Option ℕ} (eqb (bit_at slots slot) 1) (holder_of (get_or all slot Free)) None) slots-same

  -- where a slot is not in the set, or not held, nothing is to be done
  pub none-below : held_of now slots slot ≡ None → AreSpoiledBelow lives scan slots (slot + 1) now left
  none-below none = record {
    spoiled = made-more (λ before query. after_spoil query before) lives now lives slots slot None (sym held-same ∙ none) so_far.spoiled;
    stopped = made-more (λ before query. stopped_for lives query before) scan left lives slots slot None (sym held-same ∙ none) so_far.stopped;
  }

  -- a query that holds the slot, which is in the set
  module _ (query : ℕ) (sound : managed.AreSoundLives now) (there : slot < length lives.slots) (found : held_of now slots slot ≡ Some query) where
    -- it holds the slot
    holds : (built : ℕ) × (slot_at now slot ≡ Held query built)
    holds = holder-held query (slot_at now slot) (in-set (eqb (bit_at slots slot) 1) (holder_of (slot_at now slot)) query found)

    -- it holds none of the slots below
    not-below : list_any (λ other. eqb other query) (held_below lives slots slot) ≡ false
    not-below = list_any_none (λ other. eqb other query) (held_below lives slots slot)
        (all-found (λ other. eqb other query ≡ false) (held_of lives slots) (range_with_len 0 slot) (λ k d low.
        let inside : k < slot = omega (arith, length-range_with_len 0 slot) in
        let at : get_or (range_with_len 0 slot) k d ≡ k = get_or-range_with_len 0 slot k d inside ∙ (omega arith) in
        some-by (λ other. eqb other query ≡ false) (held_of lives slots (get_or (range_with_len 0 slot) k d)) (λ other is.
        ne_eqb other query (λ same. apart (get_or (range_with_len 0 slot) k d) other (omega arith) is same))))
      where
        apart : (place other : ℕ) → place < slot → held_of lives slots place ≡ Some other → other ≡ query → ⊥
        apart place other low is same =
            let rest = holder-held other (slot_at lives place) (in-set (eqb (bit_at slots place) 1) (holder_of (slot_at lives place)) other is) in
            let two : place ≡ slot = one-slot now sound place slot query rest.0 holds.0
            (ap (λ all. get_or all place Free) slots-same ∙ rest.1 ∙ ap (λ n. Held n rest.0) same) holds.1 in
            omega arith

    -- so it may still be spoiled
    pub may-spoil : All (λ other. CanSpoil other lives) (holders_in lives slots) → CanSpoil query now
    may-spoil begun =
        subst (λ o. IsTrue (option_map_or is_begun o false))
        (sym (ap (λ l. life_of l query) so_far.spoiled ∙ others-stay (held_below lives slots slot) query lives not-below))
        (All-contains (λ other. CanSpoil other lives) (holders_in lives slots) query begun
        (found-below (held_of lives slots) (length lives.slots) slot query there (sym held-same ∙ found)))

    -- it has its slot, and what runs there is ended
    pub one-below : AreSpoiledBelow lives scan slots (slot + 1) (after_spoil query now) (after_stop slot left)
    one-below =
        let place : slot_of lives query ≡ Some slot =
        ap (position (is_held_by query)) (sym slots-same)
        ∙ slot_of-holder now slot query holds.0 sound (subst (λ all. slot < length all) (sym slots-same) there) holds.1 in
        record {
          spoiled = made-more (λ before other. after_spoil other before) lives now lives slots slot (Some query) (sym held-same ∙ found) so_far.spoiled;
          stopped =
              sym (ap (λ o. option_map_or (λ at. after_stop at left) o left) place)
              ∙ made-more (λ before other. stopped_for lives other before) scan left lives slots slot (Some query) (sym held-same ∙ found) so_far.stopped;
        }

-- the same of lives and a scan that are these
pub same-below : (lives : Lives) (scan : Scanning) (slots slot : ℕ) (now later : Lives) (left last : Scanning)
    → later ≡ now → last ≡ left → AreSpoiledBelow lives scan slots slot now left → AreSpoiledBelow lives scan slots slot later last
same-below lives scan slots slot now later left last is at so_far = record { spoiled = is ∙ so_far.spoiled; stopped = at ∙ so_far.stopped }

-- a free slot is held by none
held-free : (lives : Lives) (slots slot : ℕ) → slot_at lives slot ≡ Free → held_of lives slots slot ≡ None
held-free lives slots slot free =
    ap (λ state. cond {A = Option ℕ} (eqb (bit_at slots slot) 1) (holder_of state) None) free ∙ either (eqb (bit_at slots slot) 1)
  where
    either : (t : Bool) → cond {A = Option ℕ} t None None ≡ None
    either true = refl
    either false = refl

-- free slots behind others change nothing
held-behind : (lives : Lives) (slots used more : ℕ) → ((slot : ℕ) → used ≤ slot → slot_at lives slot ≡ Free)
    → held_below lives slots (used + more) ≡ held_below lives slots used
held-behind lives slots used zero free = let same : used + 0 ≡ used = omega arith in ap (held_below lives slots) same
held-behind lives slots used (suc more) free =
    let next : used + suc more ≡ used + more + 1 = omega arith in
    ap (held_below lives slots) next
    ∙ held-more lives slots (used + more)
    ∙ ap (λ holder. held_below lives slots (used + more) ++ cons_option holder [])
    (held-free lives slots (used + more) (free (used + more) (omega arith)))
    ∙ append-nil (held_below lives slots (used + more))
    ∙ held-behind lives slots used more free

-- so the queries that hold slots are those that hold the slots in use, behind which each is free
pub all-spoiled : (lives : Lives) (scan : Scanning) (slots used slot : ℕ) (now : Lives) (left : Scanning) → slot ≡ used
    → used ≤ length lives.slots → ((place : ℕ) → used ≤ place → slot_at lives place ≡ Free)
    → AreSpoiledBelow lives scan slots slot now left → AreSpoiledBelow lives scan slots (length lives.slots) now left
all-spoiled lives scan slots used slot now left at within free so_far =
    let whole : used + (length lives.slots - used) ≡ length lives.slots = omega arith in
    let held : held_below lives slots slot ≡ held_below lives slots (length lives.slots) =
    ap (held_below lives slots) at
    ∙ sym (held-behind lives slots used (length lives.slots - used) free)
    ∙ ap (held_below lives slots) whole in
    record {
      spoiled = so_far.spoiled ∙ ap (λ queries. spoiled_all queries lives) held;
      stopped = so_far.stopped ∙ ap (λ queries. fold (λ before query. stopped_for lives query before) scan queries) held;
    }

-- a number that is there, or else 0
pub number-or : (o : Option ℕ) → unwrap_or o 0 ≡ option_map_or (λ number. number) o 0
number-or None = refl
number-or (Some number) = refl

-- the holder of a slot of the set is found
pub held-in : (slots slot : ℕ) (holder found : Option ℕ) (is : Bool) → IsTrue is ↔ Has slots slot → is ≡ true → found ≡ holder
    → found ≡ cond {A = Option ℕ} (eqb (bit_at slots slot) 1) holder None
held-in slots slot holder found is exact in_set same =
    same ∙ ap (λ (test : Bool). cond {A = Option ℕ} test holder None)
    (sym (ap (λ bit. eqb bit 1) (exact.0 (subst IsTrue (sym in_set) refl))))

-- none is found of a slot that is not of the set
pub none-out : (slots slot : ℕ) (holder : Option ℕ) (is : Bool) → IsTrue is ↔ Has slots slot → is ≡ false
    → None ≡ cond {A = Option ℕ} (eqb (bit_at slots slot) 1) holder None
none-out slots slot holder is exact out =
    sym (ap (λ (test : Bool). cond {A = Option ℕ} test holder None)
    (ne_eqb (bit_at slots slot) 1 (λ has. absurd (let never : true ≡ false = sym (exact.1 has) ∙ out in cc))))
