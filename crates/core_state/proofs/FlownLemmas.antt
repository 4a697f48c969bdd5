-- What stays sound where the batches in flight change, and not their positions.
use Rattle.core_state.proofs.Words.{◌++◌, ◌+◌, ◌<◌, ◌==◌, ◌∙◌, ◌∷◌, ◌≡◌, ◌≤◌, [], All-map, ap, AreSoundBatches, AreSoundHands, AreSoundNumbers, AreSoundQueries, AreSoundVersions, arith, filter, flat_map, Flight, get_or, get_or-map, IsSound, IsSoundOrder, length, length-map, List, map, option_map_or, positions_for, query_in, range_with_len, refl, ScanState, State, subst, sym, tables_of, DropTally, ℕ}
use Rattle.std.specs.List.{find}
use Rattle.std.specs.Prelude.{nat_lt}
use Rattle.core_state.proofs.FoundLemmas.{some-by}
use Rattle.core_state.proofs.FrameLemmas.{LivesAs, kept-with, lives-as, moved}
use Rattle.core_state.proofs.HeldLemmas.{queries-held}
use Rattle.core_state.proofs.MovedLemmas.{seats-held}

-- the core with changed batches in flight, and other tallies
abbrev pub flown : State → List DropTally → (Flight → Flight) → State
flown state tallies change =
    moved state state.lives.queries state.lives.slots (record state.filters { tallies = tallies })
    (record state.scan { flights = map change state.scan.flights }) state.numbers

-- a batch stays where it is, with its roster
pub record KeepsPlace (before after : Flight) : Type 0 where
  pub number : after.rows.number ≡ before.rows.number
  pub first : after.rows.first ≡ before.rows.first
  pub count : after.rows.count ≡ before.rows.count
  pub roster : after.roster ≡ before.roster

positions-keep : (number extent : ℕ) (before after : Flight) → KeepsPlace before after
    → positions_for number extent after ≡ positions_for number extent before
positions-keep number extent before after keeps =
    ap (λ roster. option_map_or (λ entry. filter (λ position. nat_lt position extent) (range_with_len after.rows.first after.rows.count))
    (find (λ entry. entry.number == number) roster) []) keeps.roster
    ∙ ap (λ first. option_map_or (λ entry. filter (λ position. nat_lt position extent) (range_with_len first after.rows.count))
    (find (λ entry. entry.number == number) before.roster) []) keeps.first
    ∙ ap (λ count. option_map_or (λ entry. filter (λ position. nat_lt position extent) (range_with_len before.rows.first count))
    (find (λ entry. entry.number == number) before.roster) []) keeps.count

all-positions-keep : (number extent : ℕ) (change : Flight → Flight) → ((flight : Flight) → KeepsPlace flight (change flight))
    → (flights : List Flight)
    → flat_map (positions_for number extent) (map change flights) ≡ flat_map (positions_for number extent) flights
all-positions-keep number extent change keeps [] = refl
all-positions-keep number extent change keeps (flight ∷ flights) =
    ap (λ here. here ++ flat_map (positions_for number extent) (map change flights))
    (positions-keep number extent flight (change flight) (keeps flight))
    ∙ ap (λ rest. positions_for number extent flight ++ rest) (all-positions-keep number extent change keeps flights)

queries-flown : (state : State) (tallies : List DropTally) (change : Flight → Flight) → ((flight : Flight) → KeepsPlace flight (change flight))
    → AreSoundQueries state → AreSoundQueries (flown state tallies change)
queries-flown state tallies change keeps =
    queries-held state state.lives.queries state.lives.slots (record state.filters { tallies = tallies }) scan state.numbers refl refl
    (λ accepted sound. some-by (LivesAs (tables_of state) state.seats scan accepted accepted) (query_in state.lives.queries accepted.number)
    (λ entry found. let was = lives-as state accepted sound entry found in (
      kept-with (tables_of state) state.seats state.seats state.scan scan (λ seat number has. has) accepted entry.extent entry.life
          (all-positions-keep accepted.number entry.extent change keeps state.scan.flights) refl was.0,
      was.1,
      was.2,
    )))
  where
    scan : ScanState
    scan = record state.scan { flights = map change state.scan.flights }

numbers-flown : (state : State) (tallies : List DropTally) (change : Flight → Flight) → ((flight : Flight) → KeepsPlace flight (change flight))
    → AreSoundVersions state.numbers.version state.filters.versions (map change state.scan.flights)
    → AreSoundNumbers state → AreSoundNumbers (flown state tallies change)
numbers-flown state tallies change keeps versions old = record {
  apart = λ i j d before low same.
      let flights = state.scan.flights in
      let later : j < length flights = subst (λ n. j < n) (length-map flights change) low in
      let earlier : i < length flights = omega arith in
      old.apart i j d before later
      (sym (keeps (get_or flights i d)).number ∙ ap (λ f. f.rows.number) (sym (get_or-map change flights i d d earlier))
      ∙ same ∙ ap (λ f. f.rows.number) (get_or-map change flights j d d later) ∙ (keeps (get_or flights j d)).number);
  given = λ more. All-map (λ flight. flight.rows.number ≤ state.numbers.batch) change state.scan.flights
      (λ k d low. let flight = get_or state.scan.flights k d in
      subst (λ number. number ≤ state.numbers.batch) (sym (keeps flight).number) (old.given more k d low));
  versions = versions;
  unnumbered = old.unnumbered;
}

-- what a change of batches in flight has to give
pub record Flies (state : State) (tallies : List DropTally) (change : Flight → Flight) : Type 0 where
  pub place : (flight : Flight) → KeepsPlace flight (change flight)
  pub batches : AreSoundBatches (flown state tallies change)
  pub hands : AreSoundHands (flown state tallies change)
  pub versions : AreSoundVersions state.numbers.version state.filters.versions (map change state.scan.flights)
  pub order : IsSoundOrder (record state.filters { tallies = tallies })

pub sound-flown : (state : State) (tallies : List DropTally) (change : Flight → Flight) → Flies state tallies change → IsSound state
    → IsSound (flown state tallies change)
sound-flown state tallies change flies old = record {
  settings = old.settings;
  filters = record { each = old.filters.each; dimensions = old.filters.dimensions; set = old.filters.set };
  batches = flies.batches;
  hands = flies.hands;
  queries = queries-flown state tallies change flies.place old.queries;
  slots = record { lives = old.slots.lives; count = old.slots.count; built = old.slots.built };
  store = old.store;
  ends = old.ends;
  quiet = λ none. ((old.quiet none).0, ap (map change) (old.quiet none).1, (old.quiet none).2);
  numbers = numbers-flown state tallies change flies.place flies.versions old.numbers;
  scan = record {
    frames = ap (λ n. state.scan.free + n) (length-map state.scan.flights change) ∙ old.scan.frames;
    position = old.scan.position;
  };
  order = flies.order;
  seats = seats-held state state.lives.queries state.lives.slots (record state.filters { tallies = tallies })
      (record state.scan { flights = map change state.scan.flights }) state.numbers refl (λ number. (λ h. h, λ h. h, λ h. h)) old.seats;
}
