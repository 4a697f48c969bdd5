-- A query that loses its answer keeps a core sound.
use Rattle.core_state.proofs.Words.{◌<◌, ◌∙◌, ◌≡◌, ◌≢◌, Accepted, accepted_at, after_abandoning, after_build_wants, All-weaker, ap, AreSoundSeats, arith, Bool, CanAbandon, CanSpoil, cases_lt, cond, Contains, empty_seat, eq-eqb, eqb, eqb-true, false, filter_passes, forgotten, get_or, get_or_default, gets_rows, Has, IfSome, is_begun, is_open, IsKept, IsSound, IsSoundSeat, IsTrue, length, length-set, Life, life_in, life_in-other, List, map, MayBeOnRoster, ne_eqb, None, not, Option, option_map_or, QueryLife, refl, same_Some, Seat, seat_at, set, Some, State, subst, sym, tables_of, true, with_life, without_pending, ℕ, ⊎_elim}
use Rattle.pipeline_manager.specs.Sound as managed
use Rattle.pipeline_manager.specs.declared.life.Life.TheVariants as life
use Rattle.pipeline_manager.proofs.CallLemmas.{sound-after_abandon, sound-after_spoil}
use Rattle.core_state.proofs.AcceptedLemmas.{find-holds}
use Rattle.core_state.proofs.AnewLemmas.{forgets, kept_anew, queries-anew, sound-anew}
use Rattle.core_state.proofs.FoundLemmas.{extents-written, find-passes, life-written, with_life-found, with_life-numbers}
use Rattle.core_state.proofs.FrameLemmas.{LivesAs, StayTaken, Told, Wanted, at-set, awaited-there, kept-with, lives-as}
use Rattle.core_state.proofs.SeatLemmas.{part-stays, seat-anew, seat-fewer, seat-there, seats-anew}
use Rattle.core_state.proofs.WholeLivesLemmas.{lost-more, lost-now, lost-written}

-- the life of a query that has no answer
record IsLost (lost : Life) : Type 0 where
  kept : (state : State) (accepted : Accepted) (extent : ℕ) → accepted.groups ≡ None → IsKept (tables_of state) state.seats state.scan accepted extent lost
  rostered : MayBeOnRoster lost
  gets : gets_rows lost ≡ false
  closed : is_open lost ≡ false

abandoned : IsLost life.Abandoned
abandoned = record { kept = λ state accepted extent none. none; rostered = tt; gets = refl; closed = refl }

spoiled : IsLost life.Spoiled
spoiled = record { kept = λ state accepted extent none. none; rostered = tt; gets = refl; closed = refl }

-- a core is sound where a query has no answer, and its seats are
sound-lost : (query : ℕ) (old lost : Life) (state : State) (seats : List Seat) → IsLost lost → life_in state.lives.queries query ≡ Some old
    → managed.AreSoundLives (record state.lives { queries = with_life query lost state.lives.queries }) → length seats ≡ length state.seats
    → StayTaken state.seats seats
    → AreSoundSeats (kept_anew state (forgotten query) (with_life query lost state.lives.queries) seats state.scan) → IsSound state
    → IsSound (kept_anew state (forgotten query) (with_life query lost state.lives.queries) seats state.scan)
sound-lost query old lost state seats is_lost was lives count stay sound_seats sound =
    sound-anew state (forgotten query) (forgets query) queries seats
    (λ number. (
      life-written MayBeOnRoster query old lost state.lives.queries number was (λ h. is_lost.rostered),
      extents-written query lost state.lives.queries number,
    )) count
    (queries-anew state (forgotten query) (forgets query) queries seats state.scan (with_life-numbers query lost state.lives.queries)
    (λ accepted there of_query. with_life-found (LivesAs (tables_of state) seats state.scan accepted (forgotten query accepted)) query lost
    state.lives.queries accepted.number
    (λ entry found same. (
      is_lost.kept (kept_anew state (forgotten query) queries seats state.scan) (forgotten query accepted) entry.extent
          (ap (λ t. (cond {A = Accepted} t (record accepted { groups = None }) accepted).groups) (eq-eqb accepted.number query same)),
      λ opens. absurd (let both : true ≡ false = sym opens ∙ is_lost.closed in cc),
      (lives-as state accepted of_query entry found).2,
    ))
    (λ entry found apart.
    subst (λ given. LivesAs (tables_of state) seats state.scan accepted given entry)
    (sym (ap (λ t. cond {A = Accepted} t (record accepted { groups = None }) accepted) (ne_eqb accepted.number query apart))) (
      kept-with (tables_of state) state.seats seats state.scan state.scan stay accepted entry.extent entry.life refl refl
          (lives-as state accepted of_query entry found).0,
      (lives-as state accepted of_query entry found).1,
      (lives-as state accepted of_query entry found).2,
    ))) sound.queries)
    (record {
      lives = lives;
      count = sound.slots.count;
      built = λ slot holder built low held.
          life-written (λ now. IsTrue (gets_rows now) → (dimension : ℕ) → Has state.lives.filters dimension → Has built dimension)
          query old lost state.lives.queries holder was
          (λ h gets. absurd (let both : true ≡ false = sym gets ∙ is_lost.gets in cc)) (sound.slots.built slot holder built low held);
    }) sound_seats sound
  where
    queries : List QueryLife
    queries = with_life query lost state.lives.queries

-- a query that may still be answered has no reply that was taken
told-open : (query : ℕ) (old lost : Life) (state : State) → life_in state.lives.queries query ≡ Some old → is_open old ≡ true → (number : ℕ)
    → IfSome (life_in state.lives.queries number) Told → IfSome (life_in (with_life query lost state.lives.queries) number) Told
told-open query old lost state was opens number told =
    life-written Told query old lost state.lives.queries number was
    (λ h. absurd (⊎_elim (λ e. let both : true ≡ false = sym opens ∙ ap is_open e in cc) (λ e. let both : true ≡ false = sym opens ∙ ap is_open e in cc) h)) told

open-life : (o : Option Life) → option_map_or is_open o false ≡ true → (old : Life) × (o ≡ Some old) × (is_open old ≡ true)
open-life None e = absurd (let both : false ≡ true = e in cc)
open-life (Some old) e = (old, refl, e)

begun-open : (old : Life) → is_begun old ≡ true → is_open old ≡ true
begun-open life.Answered e = e
begun-open life.Spoiled e = e
begun-open life.Abandoned e = e
begun-open other e = refl

-- a query that has begun was not abandoned
begun-never : (old : Life) → is_begun old ≡ true → old ≡ life.Abandoned → ⊥
begun-never old begun is = let both : true ≡ false = sym begun ∙ ap is_begun is in cc

not-passed : (t : Bool) → not t ≡ false → t ≡ true
not-passed true is = refl
not-passed false is = cc

-- a query that finds no memory as a filter is built for it
pub sound-wanting : (query : ℕ) (state : State) → CanSpoil query state.lives → IsSound state → IsSound (after_build_wants query state)
sound-wanting query state can sound = by_life (life_in state.lives.queries query) refl can
  where
    queries : List QueryLife
    queries = with_life query life.Spoiled state.lives.queries

    by_life : (o : Option Life) → life_in state.lives.queries query ≡ o → option_map_or is_begun o false ≡ true
        → IsSound (kept_anew state (forgotten query) queries state.seats state.scan)
    by_life None was e = absurd (let both : false ≡ true = e in cc)
    by_life (Some old) was e =
        sound-lost query old life.Spoiled state state.seats spoiled was (sound-after_spoil query state.lives sound.slots.lives) refl
        (λ seat number has. has)
        (seats-anew state (forgotten query) (forgets query) queries state.seats state.scan refl (λ seat. refl)
        (λ k d low. seat-anew state (forgotten query) (forgets query) queries (get_or state.seats k d)
        (λ j p inside. life-written Wanted query old life.Spoiled state.lives.queries (get_or (get_or state.seats k d).pending j p).statement was
        (λ h is. cc))
        (told-open query old life.Spoiled state was (begun-open old e))
        (lost-written query life.Spoiled state.lives.queries (λ is. begun-never old e (same_Some old life.Abandoned (sym was ∙ is))))
        (sound.seats.each k d low)) sound.seats) sound

-- nobody waits for a query any more whose seat does not
sound-unpending : (query seat : ℕ) (old : Life) (state : State) → life_in state.lives.queries query ≡ Some old → is_open old ≡ true
    → Contains (seat_at state seat).submitted query → IsSound state
    → IsSound (kept_anew state (forgotten query) (with_life query life.Abandoned state.lives.queries)
    (set state.seats seat (without_pending query (get_or state.seats seat empty_seat))) state.scan)
sound-unpending query seat old state was opens submits sound =
    sound-lost query old life.Abandoned state seats abandoned was (sound-after_abandon query state.lives sound.slots.lives)
    (length-set state.seats seat without)
    (λ other number. subst (λ taken. Contains (map (λ t. t.statement) taken) number)
    (sym (part-stays (λ (s : Seat). s.taken) state.seats seat without there refl other)))
    (seats-anew state (forgotten query) (forgets query) queries seats state.scan (length-set state.seats seat without)
    (part-stays (λ (s : Seat). s.submitted) state.seats seat without there refl)
    (λ k d low. each k d (subst (λ n. k < n) (length-set state.seats seat without) low)) sound.seats) sound
  where
    queries : List QueryLife
    queries = with_life query life.Abandoned state.lives.queries

    without : Seat
    without = without_pending query (get_or state.seats seat empty_seat)

    seats : List Seat
    seats = set state.seats seat without

    there : seat < length state.seats
    there = seat-there state.seats seat query submits

    still : (number : ℕ) → number ≢ query → IfSome (life_in state.lives.queries number) Wanted → IfSome (life_in queries number) Wanted
    still number apart = subst (λ o. IfSome o Wanted) (sym (life_in-other state.lives.queries query number life.Abandoned apart))

    others : (k : ℕ) (d : Seat) → k < length state.seats → k ≢ seat → ¬ (Contains (get_or state.seats k d).submitted query)
    others k d low apart has =
        let at : get_or state.seats seat empty_seat ≡ get_or state.seats seat d = get_or_default state.seats seat empty_seat d there in
        let submits_so : Contains (get_or state.seats seat d).submitted query = subst (λ (s : Seat). Contains s.submitted query) at submits in
        ⊎_elim (λ before. sound.seats.apart k seat d before there query has submits_so)
        (λ after. sound.seats.apart seat k d (omega arith) low query submits_so has) (cases_lt k seat)

    each : (k : ℕ) (d : Seat) → k < length state.seats
        → IsSoundSeat state.numbers.statement (map (forgotten query) state.accepted) queries (get_or seats k d)
    each k d low = at-set (IsSoundSeat state.numbers.statement (map (forgotten query) state.accepted) queries) state.seats seat k without d low
        (λ same. seat-fewer state (forgotten query) (forgets query) queries (λ pending. not (eqb pending.statement query)) (get_or state.seats seat empty_seat)
        (All-weaker (λ pending. not (eqb pending.statement query) ≡ true)
        (λ pending. IfSome (life_in state.lives.queries pending.statement) Wanted → IfSome (life_in queries pending.statement) Wanted)
        (λ pending other. still pending.statement
        (λ is. let both : false ≡ true = sym (ap not (eq-eqb pending.statement query is)) ∙ other in cc))
        without.pending (filter_passes (λ pending. not (eqb pending.statement query)) (get_or state.seats seat empty_seat).pending))
        (told-open query old life.Abandoned state was opens) (lost-more query state.lives.queries)
        (λ pending is. subst (λ n. life_in queries n ≡ Some life.Abandoned)
        (sym (eqb-true pending.statement query (not-passed (eqb pending.statement query) is))) (lost-now query old state.lives.queries was))
        (sound.seats.each seat empty_seat there))
        (λ apart.
        let here = get_or state.seats k d in
        let of_seat : IsSoundSeat state.numbers.statement state.accepted state.lives.queries here = sound.seats.each k d low in
        seat-anew state (forgotten query) (forgets query) queries here
        (All-weaker (λ pending. Contains here.submitted pending.statement)
        (λ pending. IfSome (life_in state.lives.queries pending.statement) Wanted → IfSome (life_in queries pending.statement) Wanted)
        (λ pending has. still pending.statement (λ same. others k d low apart (subst (Contains here.submitted) same has)))
        here.pending (awaited-there (Contains here.submitted) (map (λ taken. taken.statement) here.taken) here.pending of_seat.submitted))
        (told-open query old life.Abandoned state was opens) (lost-more query state.lives.queries) of_seat)

pub sound-abandoned : (query : ℕ) (state : State) → CanAbandon query state.lives → IsSound state → IsSound (after_abandoning query state)
sound-abandoned query state can sound = by_accepted (accepted_at state.accepted query) refl
  where
    life_open : (old : Life) × (life_in state.lives.queries query ≡ Some old) × (is_open old ≡ true)
    life_open = open-life (life_in state.lives.queries query) can

    by_accepted : (o : Option Accepted) → accepted_at state.accepted query ≡ o
        → IsSound (option_map_or (λ accepted. kept_anew state (forgotten query) (with_life query life.Abandoned state.lives.queries)
        (set state.seats accepted.seat (without_pending query (get_or state.seats accepted.seat empty_seat))) state.scan) o state)
    by_accepted None is = sound
    by_accepted (Some accepted) is =
        let same : accepted.number ≡ query = eqb-true accepted.number query (find-passes (λ a. eqb a.number query) state.accepted accepted is) in
        let submits : Contains (seat_at state accepted.seat).submitted accepted.number =
        find-holds (λ a. Contains (seat_at state a.seat).submitted a.number) (λ a. eqb a.number query) state.accepted accepted is sound.seats.queries in
        sound-unpending query accepted.seat life_open.0 state life_open.1 life_open.2
        (subst (Contains (seat_at state accepted.seat).submitted) same submits) sound
