-- What is out with seats rests on batches that are lent: where one is lent, and where it comes home.
use Rattle.event_core.proofs.Words.{◌++◌, ◌<◌, ◌∙◌, ◌∷◌, ◌≡◌, ◌≢◌, ◌≤◌, ◌⊎◌, [], All, All-contains, All-head, All-tail, AllPairs, ap, arith, Bool, cases_eq, cases_lt, cond, cons_option, Contains, CoreParts, drop, eq-eqb, eqb, false, filter_map, find, Flight, flights_as, get_or, get_or-set_other, get_or-set_same, get_or_past, Has, IfSome, inl, inr, Known, length, length-set, lent_to, List, ne_eqb, None, none-some, Option, option_map, option_map_or, Reach, refl, same_Some, set, slice_get, Some, some-at, subst, suc, sym, take, true, zero, ℕ}
use Rattle.query_meaning.specs.Keyed.{KeyedStore}
use Rattle.shared_distributor.specs.Shared.{Lending}
use Rattle.core_parts.specs.InFlight.{passed_through}
use Rattle.core_state.specs.State as state
use Rattle.event_core.specs.Lent.{IsNotLent}
use Rattle.event_core.specs.CoreParts.{AreBacked, Beside, beside_of, Fixed, fixed_by, IsBacked, is_any_out, LeavesLoans, lent_as, lent_batches, LentBatch, Loan, loan_of}
use Rattle.event_core.proofs.EventsHandLemmas.{IsHeldAt, is_in_hand}
use Rattle.event_core.proofs.SparedLemmas.{contains-cases, contains-first, contains-more, contains-none}

-- What is picked of a list, one by one.

-- what is picked first, if it is
cons-first : {Y : Type 0} (o : Option Y) (ys : List Y) (y : Y) → o ≡ Some y → Contains (cons_option o ys) y
cons-first o ys y is = subst (λ one. Contains (cons_option one ys) y) (sym is) (contains-first y ys)

-- and what is picked of the rest
cons-more : {Y : Type 0} (o : Option Y) (ys : List Y) (y : Y) → Contains ys y → Contains (cons_option o ys) y
cons-more None ys y has = has
cons-more (Some x) ys y has = contains-more x y ys has

-- there is nothing else
cons-cases : {Y : Type 0} (o : Option Y) (ys : List Y) (y : Y) → Contains (cons_option o ys) y → (o ≡ Some y) ⊎ Contains ys y
cons-cases None ys y has = inr has
cons-cases (Some x) ys y has = by_case (contains-cases x y ys has)
  where
    by_case : (x ≡ y) ⊎ Contains ys y → (Some x ≡ Some y) ⊎ Contains ys y
    by_case (inl same) = inl (ap Some same)
    by_case (inr more) = inr more

-- where what is in one list is in another, so it is behind the same that is picked first
picked-next : {Y : Type 0} (o : Option Y) (y : Y) (old new : List Y) → (Contains old y → Contains new y)
    → Contains (cons_option o old) y → Contains (cons_option o new) y
picked-next o y old new stays has = by_case (cons-cases o old y has)
  where
    by_case : (o ≡ Some y) ⊎ Contains old y → Contains (cons_option o new) y
    by_case (inl is) = cons-first o new y is
    by_case (inr more) = cons-more o new y (stays more)

-- what is picked stays where something else is picked at a place that is written over
pub picked-beside : {X Y : Type 0} (f : X → Option Y) (y : Y) (xs : List X) (place : ℕ) (old new : X) → slice_get xs place ≡ Some old
    → f old ≢ Some y → Contains (filter_map f xs) y → Contains (filter_map f (set xs place new)) y
picked-beside f y [] place old new there apart has = absurd (none-some old there)
picked-beside f y (x ∷ xs) zero old new there apart has = by_case (cons-cases (f x) (filter_map f xs) y has)
  where
    by_case : (f x ≡ Some y) ⊎ Contains (filter_map f xs) y → Contains (cons_option (f new) (filter_map f xs)) y
    by_case (inl is) = absurd (apart (ap f (sym (same_Some x old there)) ∙ is))
    by_case (inr more) = cons-more (f new) (filter_map f xs) y more
picked-beside f y (x ∷ xs) (suc place) old new there apart has =
    picked-next (f x) y (filter_map f xs) (filter_map f (set xs place new)) (picked-beside f y xs place old new there apart) has

-- so it does where that place is taken away
pub picked-besides : {X Y : Type 0} (f : X → Option Y) (y : Y) (xs : List X) (place : ℕ) (old : X) → slice_get xs place ≡ Some old
    → f old ≢ Some y → Contains (filter_map f xs) y → Contains (filter_map f (take place xs ++ drop (suc place) xs)) y
picked-besides f y [] place old there apart has = absurd (none-some old there)
picked-besides f y (x ∷ xs) zero old there apart has = by_case (cons-cases (f x) (filter_map f xs) y has)
  where
    by_case : (f x ≡ Some y) ⊎ Contains (filter_map f xs) y → Contains (filter_map f xs) y
    by_case (inl is) = absurd (apart (ap f (sym (same_Some x old there)) ∙ is))
    by_case (inr more) = more
picked-besides f y (x ∷ xs) (suc place) old there apart has =
    picked-next (f x) y (filter_map f xs) (filter_map f (take place xs ++ drop (suc place) xs))
    (picked-besides f y xs place old there apart) has

-- what is picked at a place that is written over is there
pub picked-own : {X Y : Type 0} (f : X → Option Y) (y : Y) (xs : List X) (place : ℕ) (old new : X) → slice_get xs place ≡ Some old
    → f new ≡ Some y → Contains (filter_map f (set xs place new)) y
picked-own f y [] place old new there is = absurd (none-some old there)
picked-own f y (x ∷ xs) zero old new there is = cons-first (f new) (filter_map f xs) y is
picked-own f y (x ∷ xs) (suc place) old new there is =
    cons-more (f x) (filter_map f (set xs place new)) y (picked-own f y xs place old new there is)

-- What stays as it is while something is out.

-- where something is out with a seat, something is out
any-out : (out : List (Option Lending)) (seat : ℕ) (lending : Lending) → get_or out seat None ≡ Some lending → is_any_out out ≡ true
any-out [] seat lending is = absurd (none-some lending is)
any-out (None ∷ out) zero lending is = absurd (none-some lending is)
any-out (Some one ∷ out) zero lending is = refl
any-out (None ∷ out) (suc seat) lending is = any-out out seat lending is
any-out (Some one ∷ out) (suc seat) lending is = refl

-- and this stays as it is
pub fixed-there : (out : List (Option Lending)) (seat : ℕ) (lending : Lending) (tables : KeyedStore) (filters : ℕ)
    → get_or out seat None ≡ Some lending → fixed_by out tables filters ≡ Some (record { tables = tables; filters = filters })
fixed-there out seat lending tables filters is =
    ap (λ t. cond {A = Option Fixed} t (Some (record { tables = tables; filters = filters })) None) (any-out out seat lending is)

-- what a seat has of some tables
abbrev loan_by : KeyedStore → Option Lending → Option Loan
loan_by tables o = option_map (λ (one : Lending). record { slots = one.slots; groups = one.groups; tables = tables }) o

-- where what is beside the state stays, so does what a seat has
pub beside-lent : (old new : CoreParts) → beside_of new ≡ beside_of old → (seat : ℕ) → loan_of new seat ≡ loan_of old seat
beside-lent old new same seat = by_lending (get_or old.out seat None) refl
  where
    by_lending : (o : Option Lending) → get_or old.out seat None ≡ o → loan_of new seat ≡ loan_of old seat
    by_lending None is =
        ap (loan_by new.tables) (ap (λ (b : Beside). get_or b.out seat None) same ∙ is) ∙ sym (ap (loan_by old.tables) is)
    by_lending (Some lending) is =
        let here : get_or new.out seat None ≡ Some lending = ap (λ (b : Beside). get_or b.out seat None) same ∙ is in
        let fixed : Some (record { tables = new.tables; filters = new.lives.filters })
        ≡ Some (record { tables = old.tables; filters = old.lives.filters }) =
        sym (fixed-there new.out seat lending new.tables new.lives.filters here) ∙ ap (λ (b : Beside). b.fixed) same
        ∙ fixed-there old.out seat lending old.tables old.lives.filters is in
        ap (loan_by new.tables) here
        ∙ ap (λ tables. loan_by tables (Some lending)) (ap (λ (one : Fixed). one.tables) (same_Some _ _ fixed))
        ∙ sym (ap (loan_by old.tables) is)

-- Who has something out.

-- a seat to which no batch is lent has nothing out
home-batches : (worker : ℕ) (flights : List Flight) → IsNotLent worker (lent_to flights)
    → (batch : LentBatch) → Contains (lent_batches flights) batch → batch.worker ≢ worker
home-batches worker [] home batch has = absurd (contains-none batch has)
home-batches worker (flight ∷ flights) home batch has =
    by_case (home-batches worker flights (behind (lent_by flight.lent flight.hand) home) batch)
    (cons-cases (lent_as flight) (lent_batches flights) batch has)
  where
    mine : Bool → Option state.Hand → Option LentBatch
    mine t o = cond {A = Option LentBatch} t (option_map (λ (hand : state.Hand). record {
      worker = hand.worker;
      roster = flight.batch.roster;
      passes = (passed_through hand.versions flight.batch).passed;
    }) o) None

    lent_by : Bool → Option state.Hand → Option ℕ
    lent_by t o = cond {A = Option ℕ} t (option_map (λ (hand : state.Hand). hand.worker) o) None

    behind : (o : Option ℕ) → All (λ other. other ≢ worker) (cons_option o (lent_to flights)) → IsNotLent worker (lent_to flights)
    behind None all = all
    behind (Some one) all = All-tail (λ other. other ≢ worker) one (lent_to flights) all

    first : (t : Bool) (o : Option state.Hand) → mine t o ≡ Some batch
        → All (λ other. other ≢ worker) (cons_option (lent_by t o) (lent_to flights)) → batch.worker ≢ worker
    first false o is all = absurd (none-some batch is)
    first true None is all = absurd (none-some batch is)
    first true (Some hand) is all =
        subst (λ n. n ≢ worker) (ap (λ (one : LentBatch). one.worker) (same_Some _ batch is))
        (All-head (λ other. other ≢ worker) hand.worker (lent_to flights) all)

    by_case : (Contains (lent_batches flights) batch → batch.worker ≢ worker)
        → (lent_as flight ≡ Some batch) ⊎ Contains (lent_batches flights) batch → batch.worker ≢ worker
    by_case later (inl is) = first flight.lent flight.hand is home
    by_case later (inr more) = later more

pub home-none : (parts : CoreParts) (worker : ℕ) → AreBacked (beside_of parts) → IsNotLent worker (lent_to parts.flights)
    → get_or parts.out worker None ≡ None
home-none parts worker backed home = by_lending (get_or parts.out worker None) refl
  where
    by_lending : (o : Option Lending) → get_or parts.out worker None ≡ o → get_or parts.out worker None ≡ None
    by_lending None is = is
    by_lending (Some lending) is =
        let one = some-at (IsBacked (beside_of parts) worker) (get_or parts.out worker None) lending is (backed worker) in
        absurd (home-batches worker parts.flights home one.0 one.1 one.2.own)

-- no two batches are in the hand of a worker, so that what is lent to it is the one that is found
abbrev workers_of : List state.Flight → List ℕ
workers_of flights = filter_map (λ (flight : state.Flight). option_map (λ (hand : state.Hand). hand.worker) flight.hand) flights

-- whose hand is among those of some batches, where one of them is lent to it
lent-hand : (known : List Known) (reaches : List Reach) (flights : List Flight) (batch : LentBatch)
    → Contains (lent_batches flights) batch → Contains (workers_of (flights_as known reaches flights)) batch.worker
lent-hand known reaches [] batch has = absurd (contains-none batch has)
lent-hand known reaches (flight ∷ flights) batch has =
    by_case (lent-hand known reaches flights batch) (cons-cases (lent_as flight) (lent_batches flights) batch has)
  where
    rest : List ℕ
    rest = workers_of (flights_as known reaches flights)

    own : Option state.Hand → Option ℕ
    own o = option_map (λ (hand : state.Hand). hand.worker) o

    mine : Bool → Option state.Hand → Option LentBatch
    mine t o = cond {A = Option LentBatch} t (option_map (λ (hand : state.Hand). record {
      worker = hand.worker;
      roster = flight.batch.roster;
      passes = (passed_through hand.versions flight.batch).passed;
    }) o) None

    of_hand : (t : Bool) (o : Option state.Hand) → mine t o ≡ Some batch → own o ≡ Some batch.worker
    of_hand false o is = absurd (none-some batch is)
    of_hand true None is = absurd (none-some batch is)
    of_hand true (Some hand) is = ap (option_map (λ (one : LentBatch). one.worker)) is

    by_case : (Contains (lent_batches flights) batch → Contains rest batch.worker)
        → (lent_as flight ≡ Some batch) ⊎ Contains (lent_batches flights) batch → Contains (cons_option (own flight.hand) rest) batch.worker
    by_case later (inl is) = cons-first (own flight.hand) rest batch.worker (of_hand flight.lent flight.hand is)
    by_case later (inr more) = cons-more (own flight.hand) rest batch.worker (later more)

pub lent-found : (known : List Known) (reaches : List Reach) (worker : ℕ) (flights : List Flight) (flight : Flight) (batch : LentBatch)
    → AllPairs (λ worker other. worker ≢ other) (workers_of (flights_as known reaches flights))
    → find (is_in_hand worker) flights ≡ Some flight → Contains (lent_batches flights) batch → batch.worker ≡ worker
    → lent_as flight ≡ Some batch
lent-found known reaches worker [] flight batch apart found has own = absurd (none-some flight found)
lent-found known reaches worker (first ∷ flights) flight batch apart found has own =
    by_hand (λ found has. lent-found known reaches worker flights flight batch (tail (worker_in first.hand) apart) found has own)
    first.hand refl
  where
    rest : List ℕ
    rest = workers_of (flights_as known reaches flights)

    worker_in : Option state.Hand → Option ℕ
    worker_in o = option_map (λ (hand : state.Hand). hand.worker) o

    Apart : List ℕ → Type 0
    Apart list = AllPairs (λ worker other. worker ≢ other) list

    tail : (o : Option ℕ) → Apart (cons_option o rest) → Apart rest
    tail None all = all
    tail (Some one) all = λ i j d before low. all (suc i) (suc j) d (omega arith) (omega arith)

    find_by : Bool → Option Flight
    find_by t = cond {A = Option Flight} t (Some first) (find (is_in_hand worker) flights)

    mine : Bool → Option state.Hand → Option LentBatch
    mine t o = cond {A = Option LentBatch} t (option_map (λ (hand : state.Hand). record {
      worker = hand.worker;
      roster = first.batch.roster;
      passes = (passed_through hand.versions first.batch).passed;
    }) o) None

    none_first : (t : Bool) → mine t None ≡ None
    none_first true = refl
    none_first false = refl

    of_first : (t : Bool) (hand : state.Hand) → mine t (Some hand) ≡ Some batch → hand.worker ≡ worker
    of_first true hand is = ap (λ (one : LentBatch). one.worker) (same_Some _ batch is) ∙ own
    of_first false hand is = absurd (none-some batch is)

    by_hand : (find (is_in_hand worker) flights ≡ Some flight → Contains (lent_batches flights) batch → lent_as flight ≡ Some batch)
        → (o : Option state.Hand) → first.hand ≡ o → lent_as flight ≡ Some batch
    by_hand later None held =
        later
        (sym (ap (λ one. find_by (option_map_or (λ (hand : state.Hand). eqb hand.worker worker) one false)) held) ∙ found)
        (subst (λ one. Contains (cons_option one (lent_batches flights)) batch)
        (ap (mine first.lent) held ∙ none_first first.lent) has)
    by_hand later (Some hand) held = by_own (cases_eq hand.worker worker)
      where
        test : is_in_hand worker first ≡ eqb hand.worker worker
        test = ap (λ one. option_map_or (λ (hand : state.Hand). eqb hand.worker worker) one false) held

        others : Apart (hand.worker ∷ rest)
        others = subst (λ one. Apart (cons_option (worker_in one) rest)) held apart

        by_case : (lent_as first ≡ Some batch) ⊎ Contains (lent_batches flights) batch → hand.worker ≡ worker → lent_as flight ≡ Some batch
        by_case (inl is) same =
            ap lent_as (sym (same_Some first flight
            (sym (ap find_by (test ∙ eq-eqb hand.worker worker same)) ∙ found))) ∙ is
        by_case (inr more) same =
            absurd (All-contains (λ other. hand.worker ≢ other) rest batch.worker
            (λ j d low. others zero (suc j) d (omega arith) (omega arith)) (lent-hand known reaches flights batch more)
            (same ∙ sym own))

        by_rest : (lent_as first ≡ Some batch) ⊎ Contains (lent_batches flights) batch → hand.worker ≢ worker → Contains (lent_batches flights) batch
        by_rest (inl is) differs = absurd (differs (of_first first.lent hand (ap (mine first.lent) (sym held) ∙ is)))
        by_rest (inr more) differs = more

        by_own : (hand.worker ≡ worker) ⊎ (hand.worker ≢ worker) → lent_as flight ≡ Some batch
        by_own (inl same) = by_case (cons-cases (lent_as first) (lent_batches flights) batch has) same
        by_own (inr differs) =
            later
            (sym (ap find_by (test ∙ ne_eqb hand.worker worker differs)) ∙ found)
            (by_rest (cons-cases (lent_as first) (lent_batches flights) batch has) differs)

-- What becomes of it where one seat takes something or brings it back.

-- what other seats have out rests on what it did
pub backed-on : (old new : Beside) (worker : ℕ) → AreBacked old
    → ((seat : ℕ) → seat ≢ worker → get_or new.out seat None ≡ get_or old.out seat None)
    → ((batch : LentBatch) → batch.worker ≢ worker → Contains old.batches batch → Contains new.batches batch)
    → ((seat : ℕ) (lending : Lending) → get_or new.out seat None ≡ Some lending → get_or old.out seat None ≡ Some lending
    → new.fixed ≡ old.fixed)
    → IfSome (get_or new.out worker None) (IsBacked new worker) → AreBacked new
backed-on old new worker backed outs stay fixed own = λ seat. by_seat seat (cases_eq seat worker)
  where
    by_lending : (seat : ℕ) → seat ≢ worker → (o : Option Lending) → get_or new.out seat None ≡ o → IfSome o (IsBacked new seat)
    by_lending seat other None is = tt
    by_lending seat other (Some lending) is =
        let was : get_or old.out seat None ≡ Some lending = sym (outs seat other) ∙ is in
        let one = some-at (IsBacked old seat) (get_or old.out seat None) lending was (backed seat) in (
          one.0,
          stay one.0 (λ same. other (sym one.2.own ∙ same)) one.1,
          record {
            own = one.2.own;
            slots = one.2.slots;
            filters = subst (λ them. IfSome them
                (λ (f : Fixed). (dimension : ℕ) → Has f.filters dimension → Has one.0.passes dimension))
                (sym (fixed seat lending is was)) one.2.filters;
          },
        )

    by_seat : (seat : ℕ) → (seat ≡ worker) ⊎ (seat ≢ worker) → IfSome (get_or new.out seat None) (IsBacked new seat)
    by_seat seat (inl same) = subst (λ s. IfSome (get_or new.out s None) (IsBacked new s)) (sym same) own
    by_seat seat (inr other) = by_lending seat other (get_or new.out seat None) refl

-- what is lent to a worker is nobody else's
pub not-other : (worker : ℕ) (flights : List Flight) (place : ℕ) (one : IsHeldAt worker flights place) (batch : LentBatch)
    → batch.worker ≢ worker → lent_as one.flight ≢ Some batch
not-other worker flights place one batch other is = other (by_lent one.flight.lent (ap (mine one.flight.lent) (sym one.held) ∙ is))
  where
    mine : Bool → Option state.Hand → Option LentBatch
    mine t o = cond {A = Option LentBatch} t (option_map (λ (hand : state.Hand). record {
      worker = hand.worker;
      roster = one.flight.batch.roster;
      passes = (passed_through hand.versions one.flight.batch).passed;
    }) o) None

    by_lent : (t : Bool) → mine t (Some one.hand) ≡ Some batch → batch.worker ≡ worker
    by_lent true lent = sym (ap (λ (b : LentBatch). b.worker) (same_Some _ batch lent)) ∙ one.own
    by_lent false lent = absurd (none-some batch lent)

-- and what is lent to it is the batch in its hand
pub own-lent : (worker : ℕ) (flights : List Flight) (place : ℕ) (one : IsHeldAt worker flights place) (batch : LentBatch)
    → lent_as one.flight ≡ Some batch → batch ≡ record {
      worker = one.hand.worker;
      roster = one.flight.batch.roster;
      passes = (passed_through one.hand.versions one.flight.batch).passed;
    }
own-lent worker flights place one batch is = by_lent one.flight.lent (ap (mine one.flight.lent) (sym one.held) ∙ is)
  where
    rests : state.Hand → LentBatch
    rests hand = record {
      worker = hand.worker;
      roster = one.flight.batch.roster;
      passes = (passed_through hand.versions one.flight.batch).passed;
    }

    mine : Bool → Option state.Hand → Option LentBatch
    mine t o = cond {A = Option LentBatch} t (option_map rests o) None

    by_lent : (t : Bool) → mine t (Some one.hand) ≡ Some batch → batch ≡ rests one.hand
    by_lent true lent = sym (same_Some (rests one.hand) batch lent)
    by_lent false lent = absurd (none-some batch lent)

-- where tables and filters stay, so does what stays as it is while the same is out with some seat
pub fixed-same : (old new : List (Option Lending)) (seat : ℕ) (lending : Lending) (tables : KeyedStore) (filters left : ℕ)
    → left ≡ filters → get_or new seat None ≡ Some lending → get_or old seat None ≡ Some lending
    → fixed_by new tables left ≡ fixed_by old tables filters
fixed-same old new seat lending tables filters left same here was =
    fixed-there new seat lending tables left here
    ∙ ap (λ set. Some (record { tables = tables; filters = set })) same
    ∙ sym (fixed-there old seat lending tables filters was)

-- a seat that has nothing of the core has nothing out
pub loan-none : (parts : CoreParts) (seat : ℕ) → loan_of parts seat ≡ None → get_or parts.out seat None ≡ None
loan-none parts seat none = by_lending (get_or parts.out seat None) none
  where
    by_lending : (o : Option Lending) → loan_by parts.tables o ≡ None → o ≡ None
    by_lending None is = refl
    by_lending (Some lending) is = absurd (none-some _ (sym is))

-- what other seats have stays where one seat's is written over
pub loans-beside : (old new : CoreParts) (worker : ℕ) (o : Option Lending) → new.out ≡ set old.out worker o → new.tables ≡ old.tables
    → LeavesLoans worker old new
loans-beside old new worker o outs tables = λ seat other.
    ap (λ list. loan_by new.tables (get_or list seat None)) outs
    ∙ ap (loan_by new.tables) (get_or-set_other old.out worker seat o None other)
    ∙ ap (λ them. loan_by them (get_or old.out seat None)) tables

-- and where all stays
pub loans-stay : (old new : CoreParts) → new.out ≡ old.out → new.tables ≡ old.tables → (seat : ℕ) → loan_of new seat ≡ loan_of old seat
loans-stay old new outs tables seat =
    ap (λ list. loan_by new.tables (get_or list seat None)) outs ∙ ap (λ them. loan_by them (get_or old.out seat None)) tables

-- nothing is out with a seat where nothing was put
pub set-none : (out : List (Option Lending)) (seat : ℕ) → get_or (set out seat None) seat None ≡ None
set-none out seat = by_place (cases_lt seat (length out))
  where
    by_place : (seat < length out) ⊎ (length out ≤ seat) → get_or (set out seat None) seat None ≡ None
    by_place (inl low) = get_or-set_same out seat None None low
    by_place (inr past) = get_or_past (set out seat None) seat None (subst (λ n. n ≤ seat) (sym (length-set out seat None)) past)

-- a seat of which nothing is out any more has nothing
pub loan-gone : (old new : CoreParts) (worker : ℕ) → new.out ≡ set old.out worker None → loan_of new worker ≡ None
loan-gone old new worker outs =
    ap (λ list. loan_by new.tables (get_or list worker None)) outs ∙ ap (loan_by new.tables) (set-none old.out worker)
