-- The rosters of batches in flight are as they were where a query with a new number is accepted.
use Rattle.event_core.proofs.Words.{◌∙◌, ◌∷◌, ◌≡◌, ◌≢◌, [], All, All-head, All-tail, ap, bit_at, Bool, cond, cons_option, entry_by, eqb, eqb-true, false, filter_map, Flight, flight_as, flights_as, get_or, Has, IsSome, Known, known_at, length, List, None, none-some, OnRoster, Option, option_map, range_with_len, Reach, reach_at, refl, roster_by, same_Some, slots_of, Some, subst, sym, true, ℕ}
use Rattle.std.specs.Prelude.{Any}
use Rattle.core_state.specs.State as state
use Rattle.core_state.proofs.CutFoundLemmas.{all-found, has-any}

-- what is found of each element is what another search finds
filter_map-same : {X Y : Type 0} (h g : X → Option Y) (xs : List X) → ((x : X) → h x ≡ g x) → filter_map h xs ≡ filter_map g xs
filter_map-same h g [] same = refl
filter_map-same h g (x ∷ xs) same =
    ap (λ o. cons_option o (filter_map h xs)) (same x) ∙ ap (cons_option (g x)) (filter_map-same h g xs same)

-- a number stands on a roster by what is known of it and how far it goes
entry-again : (known more : List Known) (reaches others : List Reach) (slot number : ℕ) → known_at more number ≡ known_at known number
    → reach_at others number ≡ reach_at reaches number → entry_by more others slot number ≡ entry_by known reaches slot number
entry-again known more reaches others slot number same far =
    ap (λ o. option_map (entry_with (reach_at others number)) o) same ∙ ap (λ extent. option_map (entry_with extent) (known_at known number)) far
  where
    entry_with : ℕ → Known → OnRoster
    entry_with extent entry = record { slot = slot; number = number; query = entry.query; snapshot = entry.snapshot; extent = extent }

-- what a slot has on a roster
abbrev found_at : List Known → List Reach → (slots : ℕ) → (holders : List ℕ) → (slot : ℕ) → Option OnRoster
found_at known reaches slots holders slot =
    cond {A = Option OnRoster} (eqb (bit_at slots slot) 1) (entry_by known reaches slot (get_or holders slot 0)) None

-- an entry of a roster stands in its slot, whose holder is known
entry-stands : (known : List Known) (reaches : List Reach) (slots : ℕ) (holders : List ℕ) (slot : ℕ) (entry : OnRoster)
    → found_at known reaches slots holders slot ≡ Some entry → IsSome (known_at known (get_or holders entry.slot 0))
entry-stands known reaches slots holders slot entry = by_test (eqb (bit_at slots slot) 1)
  where
    by_known : (o : Option Known) → known_at known (get_or holders slot 0) ≡ o
        → option_map (λ (k : Known). (let e : OnRoster = record {
          slot = slot;
          number = get_or holders slot 0;
          query = k.query;
          snapshot = k.snapshot;
          extent = reach_at reaches (get_or holders slot 0);
        } in e)) o ≡ Some entry → IsSome (known_at known (get_or holders entry.slot 0))
    by_known None is e = absurd (none-some entry e)
    by_known (Some k) is e =
        let at : slot ≡ entry.slot = ap (λ (x : OnRoster). x.slot) (same_Some _ entry e) in
        subst (λ s. IsSome (known_at known (get_or holders s 0))) at (subst (λ o. IsSome o) (sym is) refl)

    by_test : (t : Bool) → cond {A = Option OnRoster} t (entry_by known reaches slot (get_or holders slot 0)) None ≡ Some entry
        → IsSome (known_at known (get_or holders entry.slot 0))
    by_test true e = by_known (known_at known (get_or holders slot 0)) refl e
    by_test false e = absurd (none-some entry e)

-- so the holder of each slot of the set is known, where the set has the slots of the roster
holder-known : (known : List Known) (reaches : List Reach) (slots : ℕ) (holders : List ℕ) (slot : ℕ)
    → slots ≡ slots_of (roster_by known reaches slots holders) → Has slots slot → IsSome (known_at known (get_or holders slot 0))
holder-known known reaches slots holders slot same has = by_any
    (has-any (λ (e : OnRoster). e.slot) roster slot (subst (λ set. Has set slot) same has))
  where
    roster : List OnRoster
    roster = roster_by known reaches slots holders

    all : All (λ (e : OnRoster). IsSome (known_at known (get_or holders e.slot 0))) roster
    all = all-found (found_at known reaches slots holders) (λ (e : OnRoster). IsSome (known_at known (get_or holders e.slot 0)))
        (range_with_len 0 (length holders)) (λ k d low entry is. entry-stands known reaches slots holders (get_or (range_with_len 0 (length holders)) k d) entry is)

    by_any : Any (λ (e : OnRoster). e.slot ≡ slot) roster → IsSome (known_at known (get_or holders slot 0))
    by_any any =
        let at : get_or roster any.0 any.1 ≡ any.1 = any.3 in
        subst (λ s. IsSome (known_at known (get_or holders s 0))) any.4
        (subst (λ (e : OnRoster). IsSome (known_at known (get_or holders e.slot 0))) at (all any.0 any.1 any.2))

-- a roster stays as it was where no more is known of any number but a new one
pub roster-again : (known more : List Known) (reaches others : List Reach) (new slots : ℕ) (holders : List ℕ)
    → ((number : ℕ) → number ≢ new → known_at more number ≡ known_at known number)
    → ((number : ℕ) → number ≢ new → reach_at others number ≡ reach_at reaches number) → known_at known new ≡ None
    → slots ≡ slots_of (roster_by known reaches slots holders)
    → roster_by more others slots holders ≡ roster_by known reaches slots holders
roster-again known more reaches others new slots holders same far none its =
    filter_map-same (found_at more others slots holders) (found_at known reaches slots holders) (range_with_len 0 (length holders))
    (λ slot. by_test slot (eqb (bit_at slots slot) 1) refl)
  where
    apart : (slot : ℕ) → Has slots slot → get_or holders slot 0 ≢ new
    apart slot has is =
        let some : IsSome (known_at known new) = subst (λ n. IsSome (known_at known n)) is (holder-known known reaches slots holders slot its has) in
        absurd (let both : false ≡ true = subst (λ o. IsSome o) none some in cc)

    by_test : (slot : ℕ) (t : Bool) → eqb (bit_at slots slot) 1 ≡ t
        → cond {A = Option OnRoster} t (entry_by more others slot (get_or holders slot 0)) None
        ≡ cond {A = Option OnRoster} t (entry_by known reaches slot (get_or holders slot 0)) None
    by_test slot true is =
        let other = apart slot (eqb-true (bit_at slots slot) 1 is) in
        entry-again known more reaches others slot (get_or holders slot 0) (same (get_or holders slot 0) other) (far (get_or holders slot 0) other)
    by_test slot false is = refl

-- so do the batches in flight
pub flights-again : (known more : List Known) (reaches others : List Reach) (new : ℕ) (flights : List Flight)
    → ((number : ℕ) → number ≢ new → known_at more number ≡ known_at known number)
    → ((number : ℕ) → number ≢ new → reach_at others number ≡ reach_at reaches number) → known_at known new ≡ None
    → All (λ (flight : state.Flight). flight.rows.roster ≡ slots_of flight.roster) (flights_as known reaches flights)
    → flights_as more others flights ≡ flights_as known reaches flights
flights-again known more reaches others new [] same far none its = refl
flights-again known more reaches others new (flight ∷ flights) same far none its =
    ap (λ roster. (let first : state.Flight = record { rows = flight.batch; roster = roster; hand = flight.hand } in first) ∷ flights_as more others flights)
    (roster-again known more reaches others new flight.batch.roster flight.holders same far none
    (All-head (λ (flight : state.Flight). flight.rows.roster ≡ slots_of flight.roster) (flight_as known reaches flight) (flights_as known reaches flights) its))
    ∙ ap (λ rest. flight_as known reaches flight ∷ rest)
    (flights-again known more reaches others new flights same far none
    (All-tail (λ (flight : state.Flight). flight.rows.roster ≡ slots_of flight.roster) (flight_as known reaches flight) (flights_as known reaches flights) its))
