-- A batch passes the filter that it meets next: the front takes it and gives it back.
use Rattle.event_core.proofs.Words.{◌++◌, ◌+◌, ◌<◌, ◌∙◌, ◌∷◌, ◌≡◌, ◌≢◌, [], after_give, after_take, All, All-append, All-cons, All-head, All-nil, All-tail, ap, arith, Becomes, Bool, cond, CoreParts, eq-eqb, eqb, false, Flight, flight_as, flights_as, get_or-append_seam, Give, inl, IsCore, IsEnabled, IsLed, IsPassing, IsSome, Known, known_in, length, length-append, List, list_all, MayTake, ne_eqb, next_of, None, not, Option, option_map_or, passed_by, plus, position_or_len, Reach, reaches_in, refl, slice_get, slice_get-get_or, Some, state_of, subst, sym, Take, DropTally, tally_of, true, ℕ}
use Rattle.std.proofs.Math.Seq.{set-append_seam}
use Rattle.std.proofs.lemmas.List.{map-append}
use Rattle.std.specs.List.{position}
use Rattle.core_state.specs.Events.{after_event}
use Rattle.core_state.specs.State as state
use Rattle.core_parts.specs.Filtered.{with_tally}
use Rattle.star_values.proofs.PlaceLemmas.{position-past, position-within}
use Rattle.event_core.proofs.EnablingLemmas.{empty-hand, taken-wanting}
use Rattle.event_core.proofs.HandLemmas.{AreApart, apart-head, apart-tail, becomes-given, becomes-taken, held-there}
use Rattle.event_core.proofs.LivedLemmas.{QuietEventsLeave}
use Rattle.event_core.proofs.WorkLemmas.{seen-same}

-- the parts with these tallies and batches in flight
abbrev pub parts_at : CoreParts → List DropTally → List Flight → CoreParts
parts_at parts tallies flights = record parts { filters = record parts.filters { tallies = tallies }; flights = flights }

-- what is idle
abbrev pub IsIdle : Flight → Type 0
IsIdle flight = flight.hand ≡ None

-- the front led the parts of a core from one to the other
pub record IsPassedOn (old new : CoreParts) : Type 0 where
  pub core : IsCore new
  pub led : IsLed IsPassing (state_of old) (state_of new)

-- the first member that passes stands behind those that do not
first-behind : {X : Type 0} (p : X → Bool) (front : List X) (x : X) (back : List X) → All (λ one. p one ≡ false) front → p x ≡ true
    → position_or_len p (front ++ x ∷ back) ≡ length front
first-behind p [] x back none is = ap (λ t. cond (not t) (1 + position_or_len p back) 0) is
first-behind p (y ∷ front) x back none is =
    ap (λ t. cond (not t) (1 + position_or_len p (front ++ x ∷ back)) 0) (All-head (λ one. p one ≡ false) y front none)
    ∙ (let rest = first-behind p front x back (All-tail (λ one. p one ≡ false) y front none) is in omega arith)

-- so that is its place
pub place-behind : {X : Type 0} (p : X → Bool) (front : List X) (x : X) (back : List X) → All (λ one. p one ≡ false) front → p x ≡ true
    → position p (front ++ x ∷ back) ≡ Some (length front)
place-behind p front x back none is =
    position-within p (front ++ x ∷ back) (length front) (first-behind p front x back none is)
    (let long = length-append front (x ∷ back) in omega arith)

-- and it stands there
pub stands-behind : {X : Type 0} (front : List X) (x : X) (back : List X) → slice_get (front ++ x ∷ back) (length front) ≡ Some x
stands-behind front x back =
    slice_get-get_or (front ++ x ∷ back) (length front) x (let long = length-append front (x ∷ back) in omega arith)
    ∙ ap Some (get_or-append_seam front x back x)

-- a fact of all members holds of those in front, of one, and of those behind
pub front-all : {X : Type 0} (P : X → Type 0) (front : List X) (x : X) (back : List X) → All P (front ++ x ∷ back) → All P front
front-all P [] x back all = All-nil P
front-all P (y ∷ front) x back all =
    All-cons P y front (All-head P y (front ++ x ∷ back) all) (front-all P front x back (All-tail P y (front ++ x ∷ back) all))

pub one-all : {X : Type 0} (P : X → Type 0) (front : List X) (x : X) (back : List X) → All P (front ++ x ∷ back) → P x
one-all P [] x back all = All-head P x back all
one-all P (y ∷ front) x back all = one-all P front x back (All-tail P y (front ++ x ∷ back) all)

pub back-all : {X : Type 0} (P : X → Type 0) (front : List X) (x : X) (back : List X) → All P (front ++ x ∷ back) → All P back
back-all P [] x back all = All-tail P x back all
back-all P (y ∷ front) x back all = back-all P front x back (All-tail P y (front ++ x ∷ back) all)

-- with another member in its place, of which the fact holds, too
pub between-all : {X : Type 0} (P : X → Type 0) (front : List X) (x y : X) (back : List X) → All P (front ++ x ∷ back) → P y
    → All P (front ++ y ∷ back)
between-all P front x y back all holds =
    All-append P front (y ∷ back) (front-all P front x back all) (All-cons P y back holds (back-all P front x back all))

-- batches in front of one have other numbers
others-in-front : (known : List Known) (reaches : List Reach) (front : List Flight) (flight : Flight) (back : List Flight)
    → AreApart (flights_as known reaches (front ++ flight ∷ back))
    → All (λ one. eqb one.batch.number flight.batch.number ≡ false) front
others-in-front known reaches [] flight back apart = All-nil (λ (one : Flight). eqb one.batch.number flight.batch.number ≡ false)
others-in-front known reaches (first ∷ front) flight back apart =
    All-cons (λ (one : Flight). eqb one.batch.number flight.batch.number ≡ false) first front
    (ne_eqb first.batch.number flight.batch.number
    (of_code front (apart-head (flight_as known reaches first) (flights_as known reaches (front ++ flight ∷ back)) apart)))
    (others-in-front known reaches front flight back
    (apart-tail (flight_as known reaches first) (flights_as known reaches (front ++ flight ∷ back)) apart))
  where
    of_code : (front : List Flight) → All (λ (other : state.Flight). first.batch.number ≢ other.rows.number)
        (flights_as known reaches (front ++ flight ∷ back)) → first.batch.number ≢ flight.batch.number
    of_code [] all = All-head (λ (other : state.Flight). first.batch.number ≢ other.rows.number) (flight_as known reaches flight)
        (flights_as known reaches back) all
    of_code (next ∷ front) all = of_code front
        (All-tail (λ (other : state.Flight). first.batch.number ≢ other.rows.number) (flight_as known reaches next)
        (flights_as known reaches (front ++ flight ∷ back)) all)

-- no idle batch is in a hand
idle-not_held : (worker : ℕ) (flights : List Flight) → All IsIdle flights
    → All (λ one. option_map_or (λ (hand : state.Hand). eqb hand.worker worker) one.hand false ≡ false) flights
idle-not_held worker [] idle = All-nil (λ (one : Flight). option_map_or (λ (hand : state.Hand). eqb hand.worker worker) one.hand false ≡ false)
idle-not_held worker (flight ∷ flights) idle =
    All-cons (λ (one : Flight). option_map_or (λ (hand : state.Hand). eqb hand.worker worker) one.hand false ≡ false) flight flights
    (ap (λ o. option_map_or (λ (hand : state.Hand). eqb hand.worker worker) o false) (All-head IsIdle flight flights idle))
    (idle-not_held worker flights (All-tail IsIdle flight flights idle))

-- where none passes, the first place is past the list
none-first : {X : Type 0} (p : X → Bool) (xs : List X) → All (λ one. p one ≡ false) xs → position_or_len p xs ≡ length xs
none-first p [] none = refl
none-first p (x ∷ xs) none =
    ap (λ t. cond (not t) (1 + position_or_len p xs) 0) (All-head (λ one. p one ≡ false) x xs none)
    ∙ (let rest = none-first p xs (All-tail (λ one. p one ≡ false) x xs none) in omega arith)

-- so there is none
none-placed : {X : Type 0} (p : X → Bool) (xs : List X) → All (λ one. p one ≡ false) xs → position p xs ≡ None
none-placed p xs none = position-past p xs (let first = none-first p xs none in omega arith)

-- the batch passes the version of the filter that it meets next
pub passes-one : QuietEventsLeave → (parts : CoreParts) (tallies : List DropTally) (front : List Flight) (flight : Flight) (back : List Flight)
    (version : state.FilterVersion) → IsCore (parts_at parts tallies (front ++ flight ∷ back)) → All IsIdle (front ++ flight ∷ back)
    → list_all (λ bits. eqb bits 0) flight.batch.bits ≡ false → next_of parts.filters flight.batch ≡ Some version
    → IsPassedOn (parts_at parts tallies (front ++ flight ∷ back))
    (parts_at parts
    (with_tally version.filter.dimension (plus (tally_of version.filter flight.batch)) parts.filters.versions tallies)
    (front ++ record flight { batch = passed_by version.filter flight.batch } ∷ back))
unfolding after_event
passes-one quiet parts tallies front flight back version core idle bits next = record {
  core = gave.core;
  led = record {
    events = Take 0 flight.batch.number ∷ (Give 0 ∷ []);
    each = All-cons IsPassing (Take 0 flight.batch.number) (Give 0 ∷ []) refl (All-cons IsPassing (Give 0) [] refl (All-nil IsPassing));
    took = (
      state_of mid,
      record { enabled = may; after = inl took.state },
      (
        state_of last,
        record { enabled = held_now; after = inl gave.state },
        refl,
      ),
    );
  };
}
  where
    known : List Known
    known = known_in parts.asked

    reaches : List Reach
    reaches = reaches_in parts.lives.queries

    old : CoreParts
    old = parts_at parts tallies (front ++ flight ∷ back)

    hand : state.Hand
    hand = record { worker = 0; versions = version ∷ [] }

    held : Flight
    held = record flight { hand = Some hand }

    mid : CoreParts
    mid = parts_at parts tallies (front ++ held ∷ back)

    behind : Flight
    behind = record flight { batch = passed_by version.filter flight.batch }

    last : CoreParts
    last = parts_at parts
        (with_tally version.filter.dimension (plus (tally_of version.filter flight.batch)) parts.filters.versions tallies)
        (front ++ behind ∷ back)

    at : position (λ (one : Flight). eqb one.batch.number flight.batch.number) (front ++ flight ∷ back) ≡ Some (length front)
    at = place-behind (λ (one : Flight). eqb one.batch.number flight.batch.number) front flight back
        (others-in-front known reaches front flight back core.sound.numbers.apart)
        (eq-eqb flight.batch.number flight.batch.number refl)

    may : MayTake 0 flight.batch.number (state_of old)
    may = (taken-wanting old 0 flight.batch.number old.filters (front ++ flight ∷ back) (length front) flight true refl (
      seats,
      empty-hand old 0 (none-placed (λ (one : Flight). option_map_or (λ (hand : state.Hand). eqb hand.worker 0) one.hand false)
          (front ++ flight ∷ back) (idle-not_held 0 (front ++ flight ∷ back) idle)),
    )
        refl at (sym (get_or-append_seam front flight back flight)) (
          (λ yes. record { idle = one-all IsIdle front flight back idle; bits = bits; filter = subst (λ o. IsSome o) (sym next) refl }),
          (λ wants. refl),
        )).0 refl
      where
        seats : 0 < length (state_of old).seats
        seats =
            let count = core.sound.seats.count in
            let some = core.sound.settings.seats in
            omega arith

    took : Becomes mid (after_take 0 flight.batch.number (state_of old))
    took = subst (λ flights. Becomes (parts_at parts tallies flights) (after_take 0 flight.batch.number (state_of old)))
        (set-append_seam front flight back held)
        (becomes-taken quiet old 0 flight.batch.number (length front) flight version core may at (stands-behind front flight back) next)

    held_at : position (λ (one : Flight). option_map_or (λ (h : state.Hand). eqb h.worker 0) one.hand false) (front ++ held ∷ back)
        ≡ Some (length front)
    held_at = place-behind (λ (one : Flight). option_map_or (λ (h : state.Hand). eqb h.worker 0) one.hand false) front held back
        (idle-not_held 0 front (front-all IsIdle front flight back idle)) refl

    home : Flight
    home = record behind { hand = None; lent = false }

    -- the parts with a batch in the place of the one that was given back
    parts_behind : Flight → CoreParts
    parts_behind one = parts_at parts
        (with_tally version.filter.dimension (plus (tally_of version.filter flight.batch)) parts.filters.versions tallies)
        (front ++ one ∷ back)

    came : Becomes (parts_behind home) (after_give 0 (state_of mid))
    came = subst (λ flights. Becomes (parts_at parts
        (with_tally version.filter.dimension (plus (tally_of version.filter flight.batch)) parts.filters.versions tallies)
        flights) (after_give 0 (state_of mid))) (set-append_seam front held back home)
        (becomes-given quiet mid 0 (length front) held hand took.core held_at (stands-behind front held back) refl)

    -- whether a batch is lent is not seen
    seen : flights_as known reaches (front ++ behind ∷ back) ≡ flights_as known reaches (front ++ home ∷ back)
    seen = ap (λ (o : Option state.Hand). flights_as known reaches (front ++ record behind { hand = o } ∷ back))
        (one-all IsIdle front flight back idle)
        ∙ map-append (flight_as known reaches) front (record behind { hand = None } ∷ back)
        ∙ sym (map-append (flight_as known reaches) front (home ∷ back))

    again : Becomes last (state_of (parts_behind home))
    again = seen-same (parts_behind home) (front ++ behind ∷ back) parts.marks seen came.core

    gave : Becomes last (after_give 0 (state_of mid))
    gave = record { state = again.state ∙ came.state; core = again.core }

    held_now : IsEnabled (state_of mid) (Give 0)
    held_now = subst (λ o. IsSome o)
        (sym (held-there known reaches 0 (front ++ held ∷ back) (length front) held held_at (stands-behind front held back))) refl
