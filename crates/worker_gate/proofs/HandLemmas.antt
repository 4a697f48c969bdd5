-- What is found in the hand of a worker: after a batch is taken, and after it is given back.
use Rattle.std.proofs.Common.{◌≡◌, ◌≢◌, ℕ, Bool, true, false, cond, eqb, eq-eqb, List, [], ◌∷◌, Option, Some, None, option_map, refl, sym, ap, ◌∙◌, subst}
use Rattle.std.proofs.lemmas.Bool.{eqb-true, ne_eqb}
use Rattle.std.proofs.lemmas.List.Elements.{All-head, All-tail}
use Rattle.std.specs.List.{cons_option, filter_map}
use Rattle.std.specs.Option.{option_map_or}
use Rattle.std.specs.Prelude.{All, AllPairs, IfSome, IsSome, IsSomeAnd}
use Rattle.core_state.specs.Cutting.{after_carry, after_give, given_back, tallies_after, with_flight}
use Rattle.core_state.specs.Events.{MayCarry}
use Rattle.core_state.specs.Found.{filters_left, flight_at, held_by, is_held_by}
use Rattle.core_state.specs.Sound.{IsSound}
use Rattle.core_state.specs.State.{Flight, Hand, State}
use Rattle.core_state.proofs.FoundLemmas.{find-passes, some-at, some-of, some-passes}
use Rattle.core_state.proofs.Words.{all_pairs_head, all_pairs_tail}
use Rattle.event_core.specs.Board.{CoreRow}
use Rattle.event_core.specs.CoreParts.{Loan}
use Rattle.worker_gate.specs.Hands.{Holds}

-- What is said of a hand.

-- what holds of the batch that is found in a hand, where one is
pub holds-found : (IsSo : Option Loan → Flight → Hand → Type 0) (row : CoreRow) (flights : List Flight) (worker : ℕ)
    → row.row.hand ≡ held_by flights worker → IsSome (held_by flights worker)
    → IfSome (held_by flights worker) (λ flight. IfSome flight.hand (IsSo row.loan flight)) → Holds IsSo row
holds-found IsSo row flights worker own some so =
    let found = some-of (held_by flights worker) some in
    let hand = some-passes (λ (h : Hand). eqb h.worker worker) found.0.hand (find-passes (is_held_by worker) flights found.0 found.1) in
    record {
      flight = found.0;
      hand = hand.0;
      has = own ∙ found.1;
      is_in = hand.1;
      is_so = some-at (IsSo row.loan found.0) found.0.hand hand.0 hand.1
          (some-at (λ (f : Flight). IfSome f.hand (IsSo row.loan f)) (held_by flights worker) found.0 found.1 so);
    }

-- the same where a batch is found there
pub holds-there : (IsSo : Option Loan → Flight → Hand → Type 0) (row : CoreRow) (flights : List Flight) (worker : ℕ)
    → row.row.hand ≡ held_by flights worker
    → IsSomeAnd (held_by flights worker) (λ flight. IsSomeAnd flight.hand (IsSo row.loan flight)) → Holds IsSo row
holds-there IsSo row flights worker own so = by_found (held_by flights worker) own so
  where
    by_hand : (flight : Flight) → row.row.hand ≡ Some flight → (hand : Option Hand) → flight.hand ≡ hand
        → IsSomeAnd hand (IsSo row.loan flight) → Holds IsSo row
    by_hand flight has None is never = absurd never
    by_hand flight has (Some hand) is one = record { flight = flight; hand = hand; has = has; is_in = is; is_so = one }

    by_found : (o : Option Flight) → row.row.hand ≡ o → IsSomeAnd o (λ flight. IsSomeAnd flight.hand (IsSo row.loan flight))
        → Holds IsSo row
    by_found None has never = absurd never
    by_found (Some flight) has one = by_hand flight has flight.hand refl one

-- and the other way round
pub found-holds : (IsSo : Option Loan → Flight → Hand → Type 0) (row : CoreRow) → Holds IsSo row
    → IfSome row.row.hand (λ flight. IfSome flight.hand (IsSo row.loan flight))
found-holds IsSo row holds =
    subst (λ o. IfSome o (λ (f : Flight). IfSome f.hand (IsSo row.loan f))) (sym holds.has)
    (subst (λ o. IfSome o (IsSo row.loan holds.flight)) (sym holds.is_in) holds.is_so)

-- something is in it
pub some-held : (IsSo : Option Loan → Flight → Hand → Type 0) (row : CoreRow) → Holds IsSo row → IsSome row.row.hand
some-held IsSo row holds = subst IsSome (sym holds.has) refl

-- what holds more
pub holds-weaker : (IsSo IsOther : Option Loan → Flight → Hand → Type 0)
    → ((loan : Option Loan) (flight : Flight) (hand : Hand) → IsSo loan flight hand → IsOther loan flight hand)
    → (row : CoreRow) → Holds IsSo row → Holds IsOther row
holds-weaker IsSo IsOther weaker row holds = record {
  flight = holds.flight;
  hand = holds.hand;
  has = holds.has;
  is_in = holds.is_in;
  is_so = weaker row.loan holds.flight holds.hand holds.is_so;
}

-- A batch that is taken.

-- where the batch of a number becomes one that is in the hand, one is
held-taken : (worker number : ℕ) (change : Flight → Flight) (flights : List Flight) (flight : Flight) → flight_at flights number ≡ Some flight
    → is_held_by worker (change flight) ≡ true → IsSome (held_by (with_flight number change flights) worker)
held-taken worker number change [] flight is held = absurd (let both : None ≡ Some flight = is in cc)
held-taken worker number change (first ∷ flights) flight is held =
    by_number (eqb first.rows.number number) is (λ found. held-taken worker number change flights flight found held)
  where
    by_hand : (test : Bool) (one : Flight) → IsSome (held_by (with_flight number change flights) worker)
        → IsSome (cond {A = Option Flight} test (Some one) (held_by (with_flight number change flights) worker))
    by_hand true one some = refl
    by_hand false one some = some

    by_number : (test : Bool) → cond {A = Option Flight} test (Some first) (flight_at flights number) ≡ Some flight
        → (flight_at flights number ≡ Some flight → IsSome (held_by (with_flight number change flights) worker))
        → IsSome (held_by (cond {A = Flight} test (change first) first ∷ with_flight number change flights) worker)
    by_number true found rest =
        let same : first ≡ flight = cc in
        subst (λ test. IsSome (cond {A = Option Flight} test (Some (change first)) (held_by (with_flight number change flights) worker)))
        (sym (ap (λ f. is_held_by worker (change f)) same ∙ held)) refl
    by_number false found rest = by_hand (is_held_by worker first) first (rest found)

-- a batch that a worker carries is in its hand
pub carried-held : (worker batch : ℕ) (state : State) → MayCarry worker batch state
    → IsSome (held_by (after_carry worker batch state).scan.flights worker)
carried-held worker batch state may =
    let found = some-of (flight_at state.scan.flights batch) may.there in
    held-taken worker batch carried state.scan.flights found.0 found.1 (eq-eqb worker worker refl)
  where
    carried : Flight → Flight
    carried flight = record flight { hand = Some (record { worker = worker; versions = filters_left state.filters flight }) }

-- A batch that is given back.

-- the workers in whose hands batches are
abbrev workers_in : List Flight → List ℕ
workers_in flights = filter_map (λ flight. option_map (λ hand. hand.worker) flight.hand) flights

-- what is not in a hand is not there where batches are given back
none-given : (worker number : ℕ) (flights : List Flight) → held_by flights worker ≡ None → held_by (with_flight number given_back flights) worker ≡ None
none-given worker number [] none = refl
none-given worker number (flight ∷ flights) none = by_hand (is_held_by worker flight) refl none (none-given worker number flights)
  where
    by_number : (test : Bool) → is_held_by worker flight ≡ false → is_held_by worker (cond {A = Flight} test (given_back flight) flight) ≡ false
    by_number true free = refl
    by_number false free = free

    by_hand : (test : Bool) → is_held_by worker flight ≡ test → cond {A = Option Flight} test (Some flight) (held_by flights worker) ≡ None
        → (held_by flights worker ≡ None → held_by (with_flight number given_back flights) worker ≡ None)
        → held_by (with_flight number given_back (flight ∷ flights)) worker ≡ None
    by_hand true is found rest = absurd (let both : Some flight ≡ None = found in cc)
    by_hand false is found rest =
        ap (λ t. cond {A = Option Flight} t (Some (cond {A = Flight} (eqb flight.rows.number number) (given_back flight) flight))
        (held_by (with_flight number given_back flights) worker))
        (by_number (eqb flight.rows.number number) is) ∙ rest found

-- a worker that has none of the hands has no batch
none-other : (worker : ℕ) (flights : List Flight) → All (λ other. worker ≢ other) (workers_in flights) → held_by flights worker ≡ None
none-other worker [] apart = refl
none-other worker (flight ∷ flights) apart = by_hand flight.hand apart (none-other worker flights)
  where
    by_hand : (hand : Option Hand) → All (λ other. worker ≢ other) (cons_option (option_map (λ h. h.worker) hand) (workers_in flights))
        → (All (λ other. worker ≢ other) (workers_in flights) → held_by flights worker ≡ None)
        → cond {A = Option Flight} (option_map_or (λ h. eqb h.worker worker) hand false) (Some flight) (held_by flights worker) ≡ None
    by_hand None others rest = rest others
    by_hand (Some hand) others rest =
        ap (λ t. cond {A = Option Flight} t (Some flight) (held_by flights worker))
        (ne_eqb hand.worker worker (λ same. All-head (λ other. worker ≢ other) hand.worker (workers_in flights) others (sym same)))
        ∙ rest (All-tail (λ other. worker ≢ other) hand.worker (workers_in flights) others)

-- the batch in a hand is given back, and no other is in it
none-back : (worker number : ℕ) (flights : List Flight) (flight : Flight) → held_by flights worker ≡ Some flight → flight.rows.number ≡ number
    → AllPairs (λ one other. one ≢ other) (workers_in flights) → held_by (with_flight number given_back flights) worker ≡ None
none-back worker number [] flight is has apart = absurd (let both : None ≡ Some flight = is in cc)
none-back worker number (first ∷ flights) flight is has apart =
    by_hand (is_held_by worker first) refl is
    (λ found. none-back worker number flights flight found has (others first.hand apart))
  where
    others : (hand : Option Hand) → AllPairs (λ one other. one ≢ other) (cons_option (option_map (λ h. h.worker) hand) (workers_in flights))
        → AllPairs (λ one other. one ≢ other) (workers_in flights)
    others None pairs = pairs
    others (Some hand) pairs = all_pairs_tail (λ one other. one ≢ other) hand.worker (workers_in flights) pairs

    rest-none : (hand : Option Hand) → option_map_or (λ h. eqb h.worker worker) hand false ≡ true
        → AllPairs (λ one other. one ≢ other) (cons_option (option_map (λ h. h.worker) hand) (workers_in flights)) → held_by flights worker ≡ None
    rest-none None held pairs = absurd (let both : false ≡ true = held in cc)
    rest-none (Some hand) held pairs =
        none-other worker flights
        (subst (λ n. All (λ other. n ≢ other) (workers_in flights)) (eqb-true hand.worker worker held)
        (all_pairs_head (λ one other. one ≢ other) hand.worker (workers_in flights) pairs))

    by_number : (test : Bool) → is_held_by worker first ≡ false → is_held_by worker (cond {A = Flight} test (given_back first) first) ≡ false
    by_number true free = refl
    by_number false free = free

    by_hand : (test : Bool) → is_held_by worker first ≡ test → cond {A = Option Flight} test (Some first) (held_by flights worker) ≡ Some flight
        → (held_by flights worker ≡ Some flight → held_by (with_flight number given_back flights) worker ≡ None)
        → held_by (with_flight number given_back (first ∷ flights)) worker ≡ None
    by_hand true held found rest =
        let same : first ≡ flight = cc in
        ap (λ t. cond {A = Option Flight} (is_held_by worker (cond {A = Flight} t (given_back first) first))
        (Some (cond {A = Flight} t (given_back first) first)) (held_by (with_flight number given_back flights) worker))
        (eq-eqb first.rows.number number (ap (λ (f : Flight). f.rows.number) same ∙ has))
        ∙ none-given worker number flights (rest-none first.hand held apart)
    by_hand false held found rest =
        ap (λ t. cond {A = Option Flight} t (Some (cond {A = Flight} (eqb first.rows.number number) (given_back first) first))
        (held_by (with_flight number given_back flights) worker))
        (by_number (eqb first.rows.number number) held) ∙ rest found

-- a worker that gave a batch back has an empty hand
pub given-empty : (worker : ℕ) (state : State) → IsSome (held_by state.scan.flights worker) → IsSound state
    → held_by (after_give worker state).scan.flights worker ≡ None
given-empty worker state some sound =
    let found = some-of (held_by state.scan.flights worker) some in
    ap (λ o. held_by (option_map_or given o state).scan.flights worker) found.1
    ∙ none-back worker found.0.rows.number state.scan.flights found.0 found.1 refl sound.hands.one
  where
    given : Flight → State
    given flight = record state {
      filters = record state.filters { tallies = tallies_after flight state.filters.versions state.filters.tallies };
      scan = record state.scan { flights = with_flight flight.rows.number given_back state.scan.flights };
    }
