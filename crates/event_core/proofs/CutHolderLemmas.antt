-- Who is on the roster of a batch that is cut: at each slot of its set the query that the scan runs there.
use Rattle.event_core.proofs.Words.{◌++◌, ◌+◌, ◌-◌, ◌<◌, ◌↔◌, ◌∙◌, ◌∷◌, ◌≡◌, ◌≤◌, [], Accepted, accepted_as, accepted_at, accepted_in, ap, append-nil, AreHolders, arith, AskedQuery, bit_at, Bool, cond, cons_option, CoreParts, entry_by, entry_of, eq-eqb, eqb, extent_in, false, filter_map, filter_map-append, find, get_or, get_or_past, Grouped, Has, holder_of, is_some, IsCore, IsTrue, Known, known_at, known_in, length, life_at, List, Lives, ne_eqb, None, OnRoster, Option, option_map, option_map_or, QueryLife, range_parts, range_with_len, Reach, reach_at, reaches_in, refl, roster_by, roster_of, Running, Some, state_of, suc, sym, true, zero, ℕ}
use Rattle.continuous_scan.specs.Stamped as stamped
use Rattle.core_state.specs.Found.{running_at}
use Rattle.core_state.proofs.CutRosterLemmas.{RunsIn, runs-in}
use Rattle.core_state.proofs.ScannedSlotLemmas.{runs-as}

-- what is known of an accepted query
abbrev pub known_of : Accepted → Known
known_of accepted = record { number = accepted.number; query = accepted.query; snapshot = accepted.snapshot }

-- what is known of a number is known of the accepted query of that number
pub known-found : (lives : Lives) (attached : List (Option Grouped)) (asked : List AskedQuery) (number : ℕ)
    → known_at (known_in asked) number ≡ option_map known_of (accepted_at (accepted_in lives attached asked) number)
known-found lives attached [] number = refl
known-found lives attached (entry ∷ asked) number =
    ap (λ o. cond {A = Option Known} (eqb entry.number number) (Some (known_of (accepted_as lives attached entry))) o)
    (known-found lives attached asked number)
    ∙ by_test (eqb entry.number number) (accepted_at (accepted_in lives attached asked) number)
  where
    by_test : (t : Bool) (o : Option Accepted)
        → cond {A = Option Known} t (Some (known_of (accepted_as lives attached entry))) (option_map known_of o)
        ≡ option_map known_of (cond {A = Option Accepted} t (Some (accepted_as lives attached entry)) o)
    by_test true o = refl
    by_test false o = refl

-- how far a query goes is how far its life goes
reach-found : (queries : List QueryLife) (number : ℕ) → reach_at (reaches_in queries) number ≡ extent_in queries number
reach-found [] number = refl
reach-found (entry ∷ queries) number = by_test (eqb entry.query number) (reach-found queries number)
  where
    by_test : (t : Bool) → reach_at (reaches_in queries) number ≡ extent_in queries number
        → option_map_or (λ reach. reach.extent) (cond {A = Option Reach} t
        (Some (record { number = entry.query; extent = entry.extent })) (find (λ reach. eqb reach.number number) (reaches_in queries))) 0
        ≡ option_map_or (λ one. one.extent) (cond {A = Option QueryLife} t (Some entry) (find (λ one. eqb one.query number) queries)) 0
    by_test true rest = refl
    by_test false rest = rest

-- how an accepted query stands on a roster
entry-found : (lives : Lives) (attached : List (Option Grouped)) (asked : List AskedQuery) (slot : ℕ) (accepted : Accepted)
    → accepted_at (accepted_in lives attached asked) accepted.number ≡ Some accepted
    → entry_by (known_in asked) (reaches_in lives.queries) slot accepted.number ≡ Some (entry_of lives slot accepted)
entry-found lives attached asked slot accepted found =
    ap (λ o. option_map {U = OnRoster} (λ (entry : Known). record {
      slot = slot;
      number = accepted.number;
      query = entry.query;
      snapshot = entry.snapshot;
      extent = reach_at (reaches_in lives.queries) accepted.number;
    }) o) (known-found lives attached asked accepted.number ∙ ap (option_map known_of) found)
    ∙ ap (λ extent. Some (record (entry_of lives slot accepted) { extent = extent })) (reach-found lives.queries accepted.number)

-- a slot is in the roster of a scan where a query runs in it
abbrev pub RosterLaw : Type 0
RosterLaw = (running : List (Option Running)) (slot : ℕ) → Has (stamped.roster_of running) slot ↔ IsTrue (is_some (get_or running slot None))

-- the same as a test
bit-is : RosterLaw → (running : List (Option Running)) (slot : ℕ)
    → eqb (bit_at (stamped.roster_of running) slot) 1 ≡ is_some (get_or running slot None)
bit-is law running slot = by_some (is_some (get_or running slot None)) refl
  where
    by_some : (t : Bool) → is_some (get_or running slot None) ≡ t → eqb (bit_at (stamped.roster_of running) slot) 1 ≡ is_some (get_or running slot None)
    by_some true is = eq-eqb (bit_at (stamped.roster_of running) slot) 1 ((law running slot).1 is) ∙ sym is
    by_some false is =
        ne_eqb (bit_at (stamped.roster_of running) slot) 1
        (λ has. let both : false ≡ true = sym is ∙ (law running slot).0 has in absurd (let apart : false ≡ true = both in cc))
        ∙ sym is

-- what a roster has at a slot
abbrev at_slot : CoreParts → (holders : List ℕ) → (slot : ℕ) → Option OnRoster
at_slot parts holders slot = cond {A = Option OnRoster} (eqb (bit_at (stamped.roster_of parts.scan.running) slot) 1)
    (entry_by (known_in parts.asked) (reaches_in parts.lives.queries) slot (get_or holders slot 0)) None

-- at a slot of the core the query that runs there
slot-runs : RosterLaw → (parts : CoreParts) (holders : List ℕ) → IsCore parts → AreHolders parts.lives holders → (slot : ℕ)
    → slot < length parts.lives.slots → at_slot parts holders slot ≡ running_at (state_of parts) slot
slot-runs law parts holders core held slot low =
    ap (λ t. cond {A = Option OnRoster} t
    (entry_by (known_in parts.asked) (reaches_in parts.lives.queries) slot (get_or holders slot 0)) None)
    (bit-is law parts.scan.running slot
    ∙ runs-as (life_at parts.lives slot) (running_at (state_of parts) slot) (get_or parts.scan.running slot None) (core.scanned.slots slot low))
    ∙ by_entry (running_at (state_of parts) slot) refl
  where
    by_entry : (o : Option OnRoster) → running_at (state_of parts) slot ≡ o
        → cond {A = Option OnRoster} (option_map_or (λ e. true) o false)
        (entry_by (known_in parts.asked) (reaches_in parts.lives.queries) slot (get_or holders slot 0)) None ≡ o
    by_entry None is = refl
    by_entry (Some entry) is =
        let here : RunsIn (state_of parts) slot entry = runs-in (state_of parts) slot entry is in
        ap (entry_by (known_in parts.asked) (reaches_in parts.lives.queries) slot)
        (held.each slot low ∙ ap (λ now. option_map_or (λ number. number) (holder_of now) 0) here.held)
        ∙ entry-found parts.lives parts.attached parts.asked slot here.accepted here.found
        ∙ ap Some (sym here.is)

-- and past them nothing
slot-past : RosterLaw → (parts : CoreParts) (holders : List ℕ) → IsCore parts → (slot : ℕ) → length parts.lives.slots ≤ slot
    → at_slot parts holders slot ≡ None
slot-past law parts holders core slot past =
    ap (λ t. cond {A = Option OnRoster} t
    (entry_by (known_in parts.asked) (reaches_in parts.lives.queries) slot (get_or holders slot 0)) None)
    (bit-is law parts.scan.running slot
    ∙ ap is_some (get_or_past parts.scan.running slot None (let many = core.scanned.count in omega arith)))

-- two lookups that agree on some numbers find the same
same-below : {Y : Type 0} (f g : ℕ → Option Y) (count from : ℕ) → ((k : ℕ) → k < count → f (from + k) ≡ g (from + k))
    → filter_map f (range_with_len from count) ≡ filter_map g (range_with_len from count)
same-below f g zero from same = refl
same-below {Y = Y} f g (suc count) from same =
    ap (λ o. cons_option o (filter_map f (range_with_len (from + 1) count)))
    (let at : from ≡ from + 0 = omega arith in ap f at ∙ same 0 (omega arith) ∙ ap g (sym at))
    ∙ ap (cons_option (g from)) (same-below f g count (from + 1)
    (λ k low. let at : from + 1 + k ≡ from + suc k = omega arith in ap f at ∙ same (suc k) (omega arith) ∙ ap g (sym at)))

-- a lookup that finds nothing at some numbers
none-below : {Y : Type 0} (f : ℕ → Option Y) (count from : ℕ) → ((k : ℕ) → k < count → f (from + k) ≡ None)
    → filter_map f (range_with_len from count) ≡ []
none-below f zero from none = refl
none-below {Y = Y} f (suc count) from none =
    ap (λ o. cons_option o (filter_map f (range_with_len (from + 1) count)))
    (let at : from ≡ from + 0 = omega arith in ap f at ∙ none 0 (omega arith))
    ∙ none-below f count (from + 1)
    (λ k low. let at : from + 1 + k ≡ from + suc k = omega arith in ap f at ∙ none (suc k) (omega arith))

-- a lookup that finds nothing past some numbers
same-before : {Y : Type 0} (f g : ℕ → Option Y) (less more : ℕ) → less ≤ more → ((k : ℕ) → k < less → f k ≡ g k)
    → ((k : ℕ) → less ≤ k → f k ≡ None) → filter_map f (range_with_len 0 more) ≡ filter_map g (range_with_len 0 less)
same-before {Y = Y} f g less more fits same none =
    ap (filter_map f) (range_parts 0 less (more - less) more less (omega arith) (omega arith))
    ∙ filter_map-append f (range_with_len 0 less) (range_with_len less (more - less))
    ∙ ap (λ front. front ++ filter_map f (range_with_len less (more - less)))
    (same-below f g less 0 (λ k low. let at : 0 + k ≡ k = omega arith in ap f at ∙ same k low ∙ ap g (sym at)))
    ∙ ap (λ back. filter_map g (range_with_len 0 less) ++ back)
    (none-below f (more - less) less (λ k low. none (less + k) (omega arith)))
    ∙ append-nil (filter_map g (range_with_len 0 less))

-- the roster of the batch that is cut
pub roster-found : RosterLaw → (parts : CoreParts) (holders : List ℕ) → IsCore parts → AreHolders parts.lives holders
    → roster_by (known_in parts.asked) (reaches_in parts.lives.queries) (stamped.roster_of parts.scan.running) holders
    ≡ roster_of (state_of parts)
roster-found law parts holders core held =
    same-before (at_slot parts holders) (running_at (state_of parts)) (length parts.lives.slots) (length holders) held.count
    (slot-runs law parts holders core held) (slot-past law parts holders core)
