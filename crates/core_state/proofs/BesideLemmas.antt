-- What stays sound beside the seats where a seat submits a statement: queries are accepted behind the others.
use Rattle.core_state.proofs.Words.{◌<◌, ◌∙◌, ◌≡◌, ◌≤◌, Accepted, accepted_at, All, ap, AreSoundQueries, arith, Encodes, filter, Filter, FitsSlot, frame_words, get_or, gets_rows, Has, Held, IfSome, IsOnRoster, IsQuietBefore, IsSoundBeside, IsSoundHand, IsSoundQuery, IsTrue, length, List, MayBeOnRoster, OnRoster, option_map, option_map_or, query_in, QueryLife, refl, rows_in, Seat, slot_at, SlotState, State, subst, sym, tables_of, ℕ}
use Rattle.pipeline_manager.specs.Sound as managed
use Rattle.core_state.proofs.AcceptedLemmas.{accepted-lives, held-life, of-accepted}
use Rattle.core_state.proofs.FoundLemmas.{some-by, some-of}
use Rattle.core_state.proofs.FrameLemmas.{LivesAs, StayTaken, batches-with, filter-with, kept-with, lives-as, query-with}
use Rattle.core_state.proofs.SubmitSeatLemmas.{Still}

-- the core with other seats, another last number of a statement, other accepted queries and other lives in the same slots
abbrev pub later : State → List Seat → (statement : ℕ) → List Accepted → List QueryLife → State
later state seats statement accepted queries = record state {
  seats = seats;
  accepted = accepted;
  lives = record state.lives { queries = queries };
  numbers = record state.numbers { statement = statement };
}

-- who holds a slot has a number that was given
pub held-low : (state : State) → managed.AreSoundLives state.lives → AreSoundQueries state → (slot query built : ℕ) → slot < length state.lives.slots
    → slot_at state.lives slot ≡ Held query built → query ≤ state.numbers.statement
held-low state lives queries slot query built there holds =
    let asked = some-of (accepted_at state.accepted query)
    (accepted-lives state query queries ∙ held-life state.lives slot query built lives there holds) in
    let of = of-accepted state query asked.0 queries asked.1 in
    let low = of.0.number in
    let same : asked.0.number ≡ query = of.1 in
    omega arith

fits-later : (state : State) (seats : List Seat) (statement : ℕ) (accepted : List Accepted) (queries : List QueryLife)
    → Still state (later state seats statement accepted queries) → (filter : Filter) (slot : ℕ) (holder : SlotState)
    → ((query built : ℕ) → holder ≡ Held query built → query ≤ state.numbers.statement)
    → FitsSlot state.accepted (tables_of state) filter slot holder → FitsSlot accepted (tables_of state) filter slot holder
fits-later state seats statement accepted queries still filter slot (Held query built) low fits = (
  λ has. subst (λ o. IfSome o (λ (a : Accepted). Encodes filter slot a.query a.snapshot (rows_in (tables_of state).dimensions filter.dimension)))
      (sym (still.asked query (low query built refl))) (fits.0 has),
  fits.1,
)
fits-later state seats statement accepted queries still filter slot other low fits = fits

-- an accepted query that was there
pub query-later : (state : State) (seats : List Seat) (statement : ℕ) (accepted : List Accepted) (queries : List QueryLife)
    → Still state (later state seats statement accepted queries) → state.numbers.statement ≤ statement
    → StayTaken state.seats seats → (asked : Accepted) → IsSoundQuery state asked → IsSoundQuery (later state seats statement accepted queries) asked
query-later state seats statement accepted queries still above stay asked old =
    query-with state.numbers.statement statement (tables_of state) state.lives.queries queries state.seats seats state.scan state.scan
    asked asked.groups above
    (subst (λ o. IfSome o (LivesAs (tables_of state) seats state.scan asked asked)) (sym (still.lives asked.number old.number))
    (some-by (LivesAs (tables_of state) seats state.scan asked asked) (query_in state.lives.queries asked.number)
    (λ entry found. let was = lives-as state asked old entry found in (
      kept-with (tables_of state) state.seats seats state.scan state.scan stay asked entry.extent entry.life refl refl was.0,
      was.1,
      was.2,
    )))) old

-- all that is sound beside the seats is so still, where the queries are and nothing was asked too soon
pub beside-later : (state : State) (seats : List Seat) (statement : ℕ) (accepted : List Accepted) (queries : List QueryLife)
    → length seats ≡ length state.seats → Still state (later state seats statement accepted queries)
    → AreSoundQueries (later state seats statement accepted queries) → managed.AreSoundLives (record state.lives { queries = queries })
    → IsQuietBefore (later state seats statement accepted queries) → IsSoundBeside state
    → IsSoundBeside (later state seats statement accepted queries)
beside-later state seats statement accepted queries count still sound_queries lives quiet old = record {
  filters = record {
    each = λ k d inside.
        let filter = (get_or state.filters.versions k d).filter in
        filter-with state.accepted accepted (tables_of state) state.lives.slots state.lives.slots state.lives.filters filter refl
        (λ slot there. fits-later state seats statement accepted queries still filter slot (slot_at state.lives slot)
        (λ query built holds. low slot query built there holds)) (old.filters.each k d inside);
    dimensions = old.filters.dimensions;
    set = old.filters.set;
  };
  batches = batches-with (frame_words state) (tables_of state) state.lives queries state.lives.slots state.accepted accepted state.scan.flights
      (λ k d inside j e there. entry-later (get_or (get_or state.scan.flights k d).roster j e) ((old.batches k d inside).roster j e there)) old.batches;
  hands = record {
    each = subst (λ n. All (λ flight. IfSome flight.hand (IsSoundHand n state.lives.filters (tables_of state) flight)) state.scan.flights)
        (sym count) old.hands.each;
    one = old.hands.one;
  };
  queries = sound_queries;
  slots = record {
    lives = lives;
    count = old.slots.count;
    built = λ slot query built there holds.
        subst (λ o. IfSome (option_map (λ (e : QueryLife). e.life) o) (λ now. IsTrue (gets_rows now)
        → (dimension : ℕ) → Has state.lives.filters dimension → Has built dimension))
        (sym (still.lives query (low slot query built there holds))) (old.slots.built slot query built there holds);
  };
  store = old.store;
  quiet = quiet;
  numbers = record {
    apart = old.numbers.apart;
    given = old.numbers.given;
    versions = old.numbers.versions;
    unnumbered = old.numbers.unnumbered;
  };
  scan = record { frames = old.scan.frames; position = old.scan.position };
  order = old.order;
}
  where
    low : (slot query built : ℕ) → slot < length state.lives.slots → slot_at state.lives slot ≡ Held query built → query ≤ state.numbers.statement
    low = held-low state old.slots.lives old.queries

    entry-later : (entry : OnRoster) → IsOnRoster state.lives state.accepted entry → IsOnRoster (record state.lives { queries = queries }) accepted entry
    entry-later entry on =
        let given = low entry.slot entry.number on.held.0 on.there on.held.1 in
        record {
          there = on.there;
          held = on.held;
          life = subst (λ o. IfSome (option_map (λ (e : QueryLife). e.life) o) MayBeOnRoster) (sym (still.lives entry.number given)) on.life;
          same = subst (λ o. IfSome o (λ (a : Accepted). (a.query ≡ entry.query) × (a.snapshot ≡ entry.snapshot)))
              (sym (still.asked entry.number given)) on.same;
          extent = ap (λ o. option_map_or (λ (e : QueryLife). e.extent) o 0) (still.lives entry.number given) ∙ on.extent;
        }

-- the same queries are sound with another number of the last statement
pub beside-seated : (state : State) (seats : List Seat) (statement : ℕ) → length seats ≡ length state.seats → state.numbers.statement ≤ statement
    → StayTaken state.seats seats → IsSoundBeside state → IsSoundBeside (later state seats statement state.accepted state.lives.queries)
beside-seated state seats statement count above stay old =
    beside-later state seats statement state.accepted state.lives.queries count still
    (record {
      same = old.queries.same;
      each = λ k d low. query-later state seats statement state.accepted state.lives.queries still above stay (get_or state.accepted k d)
          (old.queries.each k d low);
    }) old.slots.lives old.quiet old
  where
    still : Still state (later state seats statement state.accepted state.lives.queries)
    still = record { asked = λ number low. refl; lives = λ number low. refl }
