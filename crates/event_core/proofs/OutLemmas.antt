-- What is out with seats rests on batches that are lent: a slot on no roster is not out, and where nothing is lent nothing is.
use Rattle.event_core.proofs.Words.{◌<◌, ◌∙◌, ◌∷◌, ◌≡◌, [], after_end, after_reserve, after_spoil, All, All-cons, All-contains, All-head, All-nil, All-tail, ap, AreIdle, arith, AskedQuery, bit_at, Bool, Building, Clearing, cond, cons_option, eqb, eq-eqb, eqb-true, false, Flight, flight_as, flights_as, fold, Free, get_or, Has, Held, holder_of, holds-slot, IfSome, is_some, IsCore, KeyedStore, Known, known_in, length, lent_to, life_of, List, list_any_none, Lives, map, MayFinish, None, none-some, OnRoster, Option, option_map, option_map_or, CoreParts, Reach, reaches_in, refl, replicate, same_Some, set, slot_at, slot_of, SlotState, slots_of, Some, state_of, subst, suc, sym, true, with_life, with_slot, zero, ℕ}
use Rattle.std.proofs.lemmas.List.{get_or_default}
use Rattle.std.proofs.lemmas.List.Folds.{Any-from_list_any}
use Rattle.shared_distributor.specs.Shared.{IsAllIn, Lending}
use Rattle.pipeline_manager.specs.Changes.{after_built, given_up, with_dimension}
use Rattle.pipeline_manager.specs.Lives.{oldest_waiting}
use Rattle.core_parts.specs.InFlight.{passed_through}
use Rattle.core_state.proofs.CutFoundLemmas.{all-found}
use Rattle.core_state.specs.Flown.{IsOnRoster, MayBeOnRoster}
use Rattle.core_state.specs.Found.{is_on_roster}
use Rattle.core_state.specs.State as state
use Rattle.event_core.specs.CoreParts.{AreBacked, Beside, beside_of, first_beside, first_marks, Fixed, fixed_by, is_any_out, IsBacked, lent_as, lent_batches, LentBatch}
use Rattle.event_core.proofs.LentLemmas.{workers-lent}
use Rattle.event_core.proofs.EnablingSetLemmas.{bit-roster}
use Rattle.event_core.proofs.StartEventLemmas.{Starting}

-- no batch has a slot on its roster
abbrev pub AreClearOf : (slot : ℕ) → List Flight → Type 0
AreClearOf slot flights = All (λ flight. ¬ (Has flight.batch.roster slot)) flights

-- a batch that is lent has the roster of the batch that it was lent of
clear-lent : (slot : ℕ) (flight : Flight) (batch : LentBatch) → lent_as flight ≡ Some batch → ¬ (Has flight.batch.roster slot)
    → ¬ (Has batch.roster slot)
clear-lent slot flight batch is clear = by_cases flight.lent flight.hand is
  where
    by_cases : (t : Bool) (o : Option state.Hand)
        → cond {A = Option LentBatch} t (option_map (λ (hand : state.Hand). (let one : LentBatch = record {
          worker = hand.worker;
          roster = flight.batch.roster;
          passes = (passed_through hand.versions flight.batch).passed;
        } in one)) o) None ≡ Some batch → ¬ (Has batch.roster slot)
    by_cases false o is = absurd (none-some batch is)
    by_cases true None is = absurd (none-some batch is)
    by_cases true (Some hand) is =
        subst (λ set. ¬ (Has set slot)) (ap (λ (one : LentBatch). one.roster) (same_Some _ batch is)) clear

-- so no lent batch has a slot that no batch has
clear-all : (slot : ℕ) (flights : List Flight) → AreClearOf slot flights → All (λ batch. ¬ (Has batch.roster slot)) (lent_batches flights)
clear-all slot flights clear = all-found lent_as (λ (batch : LentBatch). ¬ (Has batch.roster slot)) flights
    (λ k d low batch is. clear-lent slot (get_or flights k d) batch is (clear k d low))

-- and it is not out
pub not-out : (parts : CoreParts) (slot : ℕ) → AreBacked (beside_of parts) → AreClearOf slot parts.flights → IsAllIn slot parts.out
not-out parts slot backed clear = λ k d low.
    by_lending k (get_or parts.out k None) (get_or parts.out k d) (get_or_default parts.out k None d low) (backed k)
  where
    by_lending : (k : ℕ) (o found : Option Lending) → o ≡ found → IfSome o (IsBacked (beside_of parts) k)
        → IfSome found (λ one. ¬ (Has one.slots slot))
    by_lending k None found is rests = subst (λ o. IfSome o (λ (one : Lending). ¬ (Has one.slots slot))) is tt
    by_lending k (Some lending) found is rests = subst (λ o. IfSome o (λ (one : Lending). ¬ (Has one.slots slot))) is
        (λ has. All-contains (λ (batch : LentBatch). ¬ (Has batch.roster slot)) (lent_batches parts.flights) rests.0
        (clear-all slot parts.flights clear) rests.1 (subst (λ set. Has set slot) rests.2.slots has))

-- where no batch that is in flight has a slot on its roster, none has it in the set of its roster
pub clear-rosters : (parts : CoreParts) (slot : ℕ) → IsCore parts → All (λ flight. is_on_roster slot flight ≡ false) (state_of parts).scan.flights
    → AreClearOf slot parts.flights
clear-rosters parts slot core none =
    by_flights parts.flights none (λ k d low. (core.sound.batches k d low).slots)
  where
    known : List Known
    known = known_in parts.asked

    reaches : List Reach
    reaches = reaches_in parts.lives.queries

    by_flights : (flights : List Flight) → All (λ flight. is_on_roster slot flight ≡ false) (flights_as known reaches flights)
        → All (λ (flight : state.Flight). flight.rows.roster ≡ slots_of flight.roster) (flights_as known reaches flights)
        → AreClearOf slot flights
    by_flights [] none its = All-nil (λ (flight : Flight). ¬ (Has flight.batch.roster slot))
    by_flights (flight ∷ flights) none its =
        All-cons (λ (flight : Flight). ¬ (Has flight.batch.roster slot)) flight flights
        (λ has. let both : true ≡ false = sym (eq-eqb (bit_at flight.batch.roster slot) 1 has)
        ∙ ap (λ set. eqb (bit_at set slot) 1)
        (All-head (λ (flight : state.Flight). flight.rows.roster ≡ slots_of flight.roster) (flight_as known reaches flight)
        (flights_as known reaches flights) its)
        ∙ bit-roster slot (flight_as known reaches flight).roster
        ∙ All-head (λ flight. is_on_roster slot flight ≡ false) (flight_as known reaches flight) (flights_as known reaches flights) none in cc)
        (by_flights flights (All-tail (λ flight. is_on_roster slot flight ≡ false) (flight_as known reaches flight) (flights_as known reaches flights) none)
        (All-tail (λ (flight : state.Flight). flight.rows.roster ≡ slots_of flight.roster) (flight_as known reaches flight)
        (flights_as known reaches flights) its))

-- a slot that may be taken from its query is not out
pub finish-inside : (parts now : CoreParts) (slot : ℕ) → parts ≡ now → IsCore parts → MayFinish slot (state_of now) → AreBacked (beside_of parts)
    → IsAllIn slot parts.out
finish-inside parts now slot is core may backed =
    not-out parts slot backed (clear-rosters parts slot core
    (subst (λ (p : CoreParts). All (λ flight. is_on_roster slot flight ≡ false) (state_of p).scan.flights) (sym is) may.landed))

-- a slot that a query holds which has not begun is on no roster
building-clear : (parts : CoreParts) (query slot : ℕ) (asked : AskedQuery) → Starting parts query slot asked
    → All (λ flight. is_on_roster slot flight ≡ false) (state_of parts).scan.flights
building-clear parts query slot asked starts = λ k d low.
    by_flight (get_or (state_of parts).scan.flights k d) (starts.core.sound.batches k d low).roster
  where
    held : (built : ℕ) × (slot < length parts.lives.slots) × (slot_at parts.lives slot ≡ Held query built)
    held = holds-slot parts.lives query slot starts.place

    never : (entry : OnRoster) → IsOnRoster parts.lives (state_of parts).accepted entry → entry.slot ≡ slot → ⊥
    never entry on same =
        let own : Held entry.number on.held.0 ≡ Held query held.0 =
        sym on.held.1 ∙ ap (slot_at parts.lives) same ∙ held.2 in
        let number : entry.number ≡ query = same_Some entry.number query (ap holder_of own) in
        subst (λ o. IfSome o MayBeOnRoster) (ap (life_of parts.lives) number ∙ starts.can.building) on.life

    by_test : (flight : state.Flight) (t : Bool) → All (IsOnRoster parts.lives (state_of parts).accepted) flight.roster
        → is_on_roster slot flight ≡ t → is_on_roster slot flight ≡ false
    by_test flight false all is = is
    by_test flight true all is =
        let any = Any-from_list_any (λ (entry : OnRoster). eqb entry.slot slot) flight.roster is in
        absurd (never any.1 (subst (IsOnRoster parts.lives (state_of parts).accepted) any.3 (all any.0 any.1 any.2))
        (eqb-true any.1.slot slot any.4))

    by_flight : (flight : state.Flight) → All (IsOnRoster parts.lives (state_of parts).accepted) flight.roster
        → is_on_roster slot flight ≡ false
    by_flight flight all = by_test flight (is_on_roster slot flight) all refl

-- nor is one that a query holds which begins its lap
pub start-inside : (parts : CoreParts) (query slot : ℕ) (asked : AskedQuery) → Starting parts query slot asked → AreBacked (beside_of parts)
    → IsAllIn slot parts.out
start-inside parts query slot asked starts backed =
    not-out parts slot backed (clear-rosters parts slot starts.core (building-clear parts query slot asked starts))

-- a query that gets a slot changes no filter
pub reserved-filters : (slot : ℕ) (lives : Lives) → (after_reserve slot lives).filters ≡ lives.filters
reserved-filters slot lives = by_query (oldest_waiting lives)
  where
    by_query : (o : Option ℕ) → (option_map_or (λ query. record lives {
      queries = with_life query Building lives.queries;
      slots = set lives.slots slot (Held query 0);
    }) o lives).filters ≡ lives.filters
    by_query None = refl
    by_query (Some query) = refl

-- nor does one for which a filter is built
pub built-filters : (query dimension : ℕ) (lives : Lives) → (after_built query dimension lives).filters ≡ lives.filters
built-filters query dimension lives = by_slot (slot_of lives query)
  where
    by_slot : (o : Option ℕ)
        → (option_map_or (λ slot. with_slot slot (with_dimension dimension (slot_at lives slot)) lives) o lives).filters ≡ lives.filters
    by_slot None = refl
    by_slot (Some slot) = refl

-- nor one whose slot is taken
pub ended-filters : (slot : ℕ) (lives : Lives) → (after_end slot lives).filters ≡ lives.filters
ended-filters slot lives = by_state (slot_at lives slot)
  where
    by_state : (one : SlotState) → (given_up slot one lives).filters ≡ lives.filters
    by_state Free = refl
    by_state (Held query built) = refl
    by_state (Clearing left) = refl

-- nor do some that find no memory
pub spoiled-filters : (queries : List ℕ) (lives : Lives) → (fold (λ lives query. after_spoil query lives) lives queries).filters ≡ lives.filters
spoiled-filters [] lives = refl
spoiled-filters (query ∷ queries) lives = spoiled-filters queries (after_spoil query lives)

-- nothing is out with any of so many seats
none-at : (seats seat : ℕ) → get_or {A = Option Lending} (replicate seats None) seat None ≡ None
none-at zero seat = refl
none-at (suc seats) zero = refl
none-at (suc seats) (suc seat) = none-at seats seat

-- where nothing is out, nothing has to rest on what is lent
pub backed-none : (parts : CoreParts) (seats : ℕ) → parts.out ≡ replicate seats None → AreBacked (beside_of parts)
backed-none parts seats none = λ seat.
    subst (λ o. IfSome o (IsBacked (beside_of parts) seat)) (sym (ap (λ out. get_or out seat None) none ∙ none-at seats seat)) tt

-- whether something is out with one of so many seats of which none has anything
none-any : (seats : ℕ) → is_any_out (replicate seats None) ≡ false
none-any zero = refl
none-any (suc seats) = none-any seats

-- what is beside the state of a core in which nothing has come yet
pub beside-first : (parts : CoreParts) (seats : ℕ) → parts.flights ≡ [] → parts.out ≡ replicate seats None → parts.marks ≡ first_marks
    → beside_of parts ≡ first_beside seats
beside-first parts seats flights out marks =
    ap (λ list. record (beside_of parts) { lent = lent_to list; batches = lent_batches list }) flights
    ∙ ap (λ list. record (beside_of parts) {
      lent = [];
      batches = [];
      out = list;
      fixed = fixed_by list parts.tables parts.lives.filters;
    }) out
    ∙ ap (λ t. record (first_beside seats) {
      fixed = cond {A = Option Fixed} t (Some (record { tables = parts.tables; filters = parts.lives.filters })) None;
      marks = parts.marks;
    }) (none-any seats)
    ∙ ap (λ marks. record (first_beside seats) { marks = marks }) marks

-- a batch that is lent to nobody is not there
none-lent : (flights : List Flight) → lent_to flights ≡ [] → lent_batches flights ≡ []
none-lent flights none = by_list (lent_batches flights) (sym (workers-lent flights) ∙ none)
  where
    by_list : (list : List LentBatch) → map (λ (batch : LentBatch). batch.worker) list ≡ [] → list ≡ []
    by_list [] is = refl
    by_list (batch ∷ list) is = absurd (let some : batch.worker ∷ map (λ (batch : LentBatch). batch.worker) list ≡ [] = is in cc)

-- where no batch is lent, nothing is out with any seat
pub all-home : (parts : CoreParts) → AreBacked (beside_of parts) → lent_to parts.flights ≡ [] → All (λ lending. lending ≡ None) parts.out
all-home parts backed none = λ k d low.
    sym (get_or_default parts.out k None d low) ∙ by_lending k (get_or parts.out k None) (backed k)
  where
    by_lending : (k : ℕ) (o : Option Lending) → IfSome o (IsBacked (beside_of parts) k) → o ≡ None
    by_lending k None rests = refl
    by_lending k (Some lending) rests =
        absurd (let low : rests.1.0 < 0 = subst (λ n. rests.1.0 < n) (ap length (none-lent parts.flights none)) rests.1.1 in omega arith)

-- nothing is out where each seat has nothing
pub not-any : (out : List (Option Lending)) → All (λ lending. lending ≡ None) out → is_any_out out ≡ false
not-any out none = list_any_none is_some out (λ k d low. ap is_some (none k d low))

-- where nothing is out, what is beside the state stays whatever the tables and the filters become
pub beside-idle : (parts now : CoreParts) (tables : KeyedStore) (lives : Lives) → parts ≡ now → All (λ lending. lending ≡ None) parts.out
    → beside_of (record parts { tables = tables; lives = lives }) ≡ beside_of now
beside-idle parts now tables lives is none =
    ap with_fixed (idle tables lives.filters ∙ sym (idle parts.tables parts.lives.filters)) ∙ ap beside_of is
  where
    with_fixed : Option Fixed → Beside
    with_fixed fixed = record (beside_of parts) { fixed = fixed }

    idle : (tables : KeyedStore) (filters : ℕ) → fixed_by parts.out tables filters ≡ None
    idle tables filters = ap (λ t. cond {A = Option Fixed} t (Some (record { tables = tables; filters = filters })) None)
        (not-any parts.out none)

-- where no batch is in a hand, none is lent
pub idle-lend : (parts : CoreParts) → AreIdle (state_of parts) → lent_to parts.flights ≡ []
idle-lend parts idle = by_flights parts.flights idle
  where
    known : List Known
    known = known_in parts.asked

    reaches : List Reach
    reaches = reaches_in parts.lives.queries

    neither : (t : Bool) → cond {A = Option ℕ} t None None ≡ None
    neither true = refl
    neither false = refl

    by_flights : (flights : List Flight) → All (λ flight. flight.hand ≡ None) (flights_as known reaches flights) → lent_to flights ≡ []
    by_flights [] all = refl
    by_flights (flight ∷ flights) all =
        ap (λ o. cons_option o (lent_to flights))
        (ap (λ o. cond {A = Option ℕ} flight.lent (option_map (λ (hand : state.Hand). hand.worker) o) None)
        (All-head (λ (flight : state.Flight). flight.hand ≡ None) (flight_as known reaches flight) (flights_as known reaches flights) all)
        ∙ neither flight.lent)
        ∙ by_flights flights (All-tail (λ (flight : state.Flight). flight.hand ≡ None) (flight_as known reaches flight) (flights_as known reaches flights) all)
