-- What is beside the state, and events leave: the workers to which batches are lent, where batches in flight change.
use Rattle.event_core.proofs.Words.{◌++◌, ◌+◌, ◌∙◌, ◌∷◌, ◌≡◌, ◌≢◌, [], All, All-head, All-tail, ap, append-nil, arith, Bool, cond, cons_option, CoreParts, drop, false, filter_map, filter_map-append, Filters, Flight, flight_behind, is_none, lent_to, List, Lives, map, None, none-some, Option, option_map, passed_in, refl, Rows, same_Some, set, slice_get, Some, subst, suc, sym, take, true, zero, ℕ}
use Rattle.event_core.specs.Lent.{IsNotLent}
use Rattle.shared_distributor.specs.Shared.{Lending}
use Rattle.core_parts.specs.InFlight.{passed_through}
use Rattle.core_parts.specs.Passed.{behind_all}
use Rattle.core_state.specs.State as state
use Rattle.event_core.specs.CoreParts.{AreBacked, beside_of, fixed_by, lent_as, lent_batches, LentBatch}
use Rattle.event_core.proofs.EventsHandLemmas.{IsHeldAt}

-- what is picked of a list stays where one is written over by one of which the same is picked
picked-set : {X Y : Type 0} (f : X → Option Y) (xs : List X) (place : ℕ) (old new : X) → slice_get xs place ≡ Some old → f new ≡ f old
    → filter_map f (set xs place new) ≡ filter_map f xs
picked-set f [] place old new there same = absurd (none-some old there)
picked-set f (x ∷ xs) zero old new there same =
    ap (λ o. cons_option o (filter_map f xs)) (same ∙ ap f (sym (same_Some x old there)))
picked-set f (x ∷ xs) (suc place) old new there same = ap (cons_option (f x)) (picked-set f xs place old new there same)

-- and where one is taken away of which nothing is picked
picked-left : {X Y : Type 0} (f : X → Option Y) (xs : List X) (place : ℕ) (old : X) → slice_get xs place ≡ Some old → f old ≡ None
    → filter_map f (take place xs ++ drop (suc place) xs) ≡ filter_map f xs
picked-left f [] place old there none = absurd (none-some old there)
picked-left f (x ∷ xs) zero old there none =
    sym (ap (λ o. cons_option o (filter_map f xs)) (ap f (same_Some x old there) ∙ none))
picked-left f (x ∷ xs) (suc place) old there none = ap (cons_option (f x)) (picked-left f xs place old there none)

-- and where of each member the same is picked as before
picked-map : {X Y : Type 0} (f : X → Option Y) (g : X → X) → ((x : X) → f (g x) ≡ f x) → (xs : List X)
    → filter_map f (map g xs) ≡ filter_map f xs
picked-map f g same [] = refl
picked-map f g same (x ∷ xs) =
    ap (λ o. cons_option o (filter_map f (map g xs))) (same x) ∙ ap (cons_option (f x)) (picked-map f g same xs)

-- what holds of all that is picked holds of what is picked at a place
picked-there : {X Y : Type 0} (P : Y → Type 0) (f : X → Option Y) (xs : List X) (place : ℕ) (x : X) (y : Y)
    → slice_get xs place ≡ Some x → f x ≡ Some y → All P (filter_map f xs) → P y
picked-there P f [] place x y there is all = absurd (none-some x there)
picked-there P f (first ∷ xs) zero x y there is all =
    All-head P y (filter_map f xs) (subst (λ o. All P (cons_option o (filter_map f xs))) (ap f (same_Some first x there) ∙ is) all)
picked-there {Y = Y} P f (first ∷ xs) (suc place) x y there is all = picked-there P f xs place x y there is (behind (f first) all)
  where
    behind : (o : Option Y) → All P (cons_option o (filter_map f xs)) → All P (filter_map f xs)
    behind None all = all
    behind (Some one) all = All-tail P one (filter_map f xs) all

-- the worker to which a batch is lent, if it is
abbrev lent_by : Flight → Option ℕ
lent_by flight = cond {A = Option ℕ} flight.lent (option_map (λ (hand : state.Hand). hand.worker) flight.hand) None

-- what rests on a batch in a hand, where it is lent
abbrev rests_on : Flight → state.Hand → LentBatch
rests_on flight hand = record {
  worker = hand.worker;
  roster = flight.batch.roster;
  passes = (passed_through hand.versions flight.batch).passed;
}

-- an idle batch is lent to nobody
not-lent : (flight : Flight) → flight.hand ≡ None → lent_as flight ≡ None
not-lent flight idle =
    ap (λ o. cond {A = Option LentBatch} flight.lent (option_map (rests_on flight) o) None) idle ∙ neither flight.lent
  where
    neither : (t : Bool) → cond {A = Option LentBatch} t None None ≡ None
    neither true = refl
    neither false = refl

-- nor is one that is at home
at-home : (flight : Flight) (hand : Option state.Hand) → flight.lent ≡ false
    → cond {A = Option LentBatch} flight.lent (option_map (rests_on flight) hand) None ≡ None
at-home flight hand home = ap (λ t. cond {A = Option LentBatch} t (option_map (rests_on flight) hand) None) home

-- the workers to which batches are lent are those of the batches that are lent
pub workers-lent : (flights : List Flight) → lent_to flights ≡ map (λ (batch : LentBatch). batch.worker) (lent_batches flights)
workers-lent [] = refl
workers-lent (flight ∷ flights) = by_cases flight.lent flight.hand (workers-lent flights)
  where
    by_cases : (t : Bool) (o : Option state.Hand)
        → lent_to flights ≡ map (λ (batch : LentBatch). batch.worker) (lent_batches flights)
        → cons_option (cond {A = Option ℕ} t (option_map (λ (hand : state.Hand). hand.worker) o) None) (lent_to flights)
        ≡ map (λ (batch : LentBatch). batch.worker)
        (cons_option (cond {A = Option LentBatch} t (option_map (rests_on flight) o) None) (lent_batches flights))
    by_cases false o rest = rest
    by_cases true None rest = rest
    by_cases true (Some hand) rest = ap (λ list. hand.worker ∷ list) rest

-- where the same batches are lent and the same is out, what is beside the state is the same
pub beside-by : (parts now : CoreParts) (flights : List Flight) (lives : Lives) (out : List (Option Lending)) → parts ≡ now
    → lent_batches flights ≡ lent_batches parts.flights → lives.filters ≡ parts.lives.filters → out ≡ parts.out
    → beside_of (record parts { flights = flights; lives = lives; out = out }) ≡ beside_of now
beside-by parts now flights lives out is same filters outside =
    ap (λ list. record (beside_of parts) {
      lent = list;
      batches = lent_batches flights;
      out = out;
      fixed = fixed_by out parts.tables lives.filters;
    }) (workers-lent flights ∙ ap (map (λ (batch : LentBatch). batch.worker)) same ∙ sym (workers-lent parts.flights))
    ∙ ap (λ list. record (beside_of parts) { batches = list; out = out; fixed = fixed_by out parts.tables lives.filters }) same
    ∙ ap (λ list. record (beside_of parts) { out = list; fixed = fixed_by list parts.tables lives.filters }) outside
    ∙ ap (λ set. record (beside_of parts) { fixed = fixed_by parts.out parts.tables set }) filters
    ∙ ap beside_of is

-- and what is out rests on what is lent, as before
pub backed-by : (parts : CoreParts) (flights : List Flight) (lives : Lives) (out : List (Option Lending))
    → lent_batches flights ≡ lent_batches parts.flights → lives.filters ≡ parts.lives.filters → out ≡ parts.out
    → AreBacked (beside_of parts) → AreBacked (beside_of (record parts { flights = flights; lives = lives; out = out }))
backed-by parts flights lives out same filters outside backed =
    subst AreBacked (sym (beside-by parts parts flights lives out refl same filters outside)) backed

-- a batch more, which is idle
pub lent-cut : (flights new : List Flight) (flight : Flight) → new ≡ flights ++ flight ∷ [] → flight.hand ≡ None
    → lent_batches new ≡ lent_batches flights
lent-cut flights new flight is idle =
    ap lent_batches is ∙ filter_map-append lent_as flights (flight ∷ [])
    ∙ ap (λ o. filter_map lent_as flights ++ cons_option o []) (not-lent flight idle) ∙ append-nil (filter_map lent_as flights)

-- an idle batch is taken into a hand
pub lent-taken : (flights new : List Flight) (place : ℕ) (flight : Flight) (hand : state.Hand) → slice_get flights place ≡ Some flight
    → flight.hand ≡ None → flight.lent ≡ false → new ≡ set flights place (record flight { hand = Some hand })
    → lent_batches new ≡ lent_batches flights
lent-taken flights new place flight hand there idle home is =
    ap lent_batches is
    ∙ picked-set lent_as flights place flight (record flight { hand = Some hand }) there
    (at-home flight (Some hand) home ∙ sym (not-lent flight idle))

-- a batch that is not lent is given back
pub lent-given : (flights new : List Flight) (place : ℕ) (flight : Flight) (hand : state.Hand) → slice_get flights place ≡ Some flight
    → flight.lent ≡ false → new ≡ set flights place (passed_in hand flight) → lent_batches new ≡ lent_batches flights
lent-given flights new place flight hand there home is =
    ap lent_batches is ∙ picked-set lent_as flights place flight (passed_in hand flight) there (sym (at-home flight flight.hand home))

-- a batch less, which is idle
pub lent-left : (flights new : List Flight) (place : ℕ) (flight : Flight) → slice_get flights place ≡ Some flight → flight.hand ≡ None
    → new ≡ take place flights ++ drop (place + 1) flights → lent_batches new ≡ lent_batches flights
lent-left flights new place flight there idle is =
    ap lent_batches (is ∙ ap (λ n. take place flights ++ drop n flights) next)
    ∙ picked-left lent_as flights place flight there (not-lent flight idle)
  where
    next : place + 1 ≡ suc place
    next = omega arith

-- all idle batches pass all filters
pub lent-passed : (filters : Filters) (flights new : List Flight) → new ≡ map (flight_behind filters) flights
    → lent_batches new ≡ lent_batches flights
lent-passed filters flights new is =
    ap lent_batches is ∙ picked-map lent_as (flight_behind filters) (λ flight. by_hand flight flight.hand refl) flights
  where
    by_hand : (flight : Flight) (o : Option state.Hand) → flight.hand ≡ o → lent_as (flight_behind filters flight) ≡ lent_as flight
    by_hand flight None idle = not-lent (flight_behind filters flight) idle ∙ sym (not-lent flight idle)
    by_hand flight (Some hand) held = ap (λ rows. lent_as (record flight { batch = rows }))
        (ap (λ o. cond {A = Rows} (is_none o) (behind_all filters.versions filters.order flight.batch) flight.batch) held)

-- the batch in the hand of a worker who is at home is not lent
pub home-held : (worker : ℕ) (flights : List Flight) (place : ℕ) (one : IsHeldAt worker flights place) → IsNotLent worker (lent_to flights)
    → one.flight.lent ≡ false
home-held worker flights place one home = by_lent one.flight.lent refl
  where
    by_lent : (t : Bool) → one.flight.lent ≡ t → one.flight.lent ≡ false
    by_lent false is = is
    by_lent true is = absurd (picked-there (λ other. other ≢ worker) lent_by flights place one.flight one.hand.worker one.is
        (ap (λ t. cond {A = Option ℕ} t (option_map (λ (hand : state.Hand). hand.worker) one.flight.hand) None) is
        ∙ ap (option_map (λ (hand : state.Hand). hand.worker)) one.held) home one.own)
