-- What stays sound of seats where other groups are kept of accepted queries.
use Rattle.core_state.proofs.Words.{◌++◌, ◌<◌, ◌∙◌, ◌∷◌, ◌≡◌, ◌≢◌, ◌≤◌, ◌⊎◌, [], Accepted, All, All-cons, All-filter, All-head, All-map, All-tail, All-weaker, all_pairs_head, all_pairs_tail, AllPairs, AllPairs-cons, ap, AreSoundSeats, arith, Bool, cases_eq, cases_lt, cond, Contains, Contains-append_left, Contains-append_right, Contains-push, empty_seat, false, filter, get_or, get_or-set_other, get_or-set_same, get_or_default, get_or_past, IfSome, inl, inr, IsAccountedFor, IsAwaited, IsSoundSeat, length, life_in, List, map, option_map, Pending, QueryLife, refl, ScanState, Seat, set, Some, State, subst, sym, true, ℕ, ⊎_elim}
use Rattle.std.proofs.lemmas.List.{set_past}
use Rattle.std.proofs.lemmas.Map.Made.{Contains-tail}
use Rattle.pipeline_manager.specs.declared.life.Life.TheVariants as life
use Rattle.core_state.proofs.AnewLemmas.{KeepsAsked, by-change, found-anew, has-anew, kept_anew}
use Rattle.core_state.proofs.FrameLemmas.{StaysAsked, Told, Wanted, awaited-there, seat-lasts, seat-waits}
use Rattle.core_state.proofs.WholeLivesLemmas.{StayLost}

-- what is asked and told stays so
asked-anew : (state : State) (change : Accepted → Accepted) → KeepsAsked change → (queries : List QueryLife)
    → ((number : ℕ) → IfSome (life_in state.lives.queries number) Told → IfSome (life_in queries number) Told) → StayLost state.lives.queries queries
    → (number : ℕ) → StaysAsked state.accepted (map change state.accepted) state.lives.queries queries number
asked-anew state change keeps queries told lost number = record {
  none = λ none. found-anew change keeps number state.accepted ∙ ap (option_map change) none;
  has = has-anew change keeps state.accepted number;
  told = told number;
  lost = lost number;
}

-- a seat is as sound as it was where what it waits for is still wanted
pub seat-anew : (state : State) (change : Accepted → Accepted) → KeepsAsked change → (queries : List QueryLife) (seat : Seat)
    → All (λ pending. IfSome (life_in state.lives.queries pending.statement) Wanted → IfSome (life_in queries pending.statement) Wanted) seat.pending
    → ((number : ℕ) → IfSome (life_in state.lives.queries number) Told → IfSome (life_in queries number) Told) → StayLost state.lives.queries queries
    → IsSoundSeat state.numbers.statement state.accepted state.lives.queries seat
    → IsSoundSeat state.numbers.statement (map change state.accepted) queries seat
seat-anew state change keeps queries seat wanted told lost old =
    seat-lasts state.numbers.statement state.numbers.statement state.accepted (map change state.accepted) state.lives.queries queries seat (omega arith)
    (λ number given. asked-anew state change keeps queries told lost number) (λ k d low given. wanted k d low) old

-- a part of seats that is the same in a seat that is changed is the same in all
pub part-stays : {X : Type 0} (part : Seat → X) (seats : List Seat) (seat : ℕ) (now : Seat) → seat < length seats
    → part now ≡ part (get_or seats seat empty_seat) → (other : ℕ)
    → part (get_or (set seats seat now) other empty_seat) ≡ part (get_or seats other empty_seat)
part-stays part seats seat now there same other =
    ⊎_elim
    (λ here. subst (λ n. part (get_or (set seats seat now) n empty_seat) ≡ part (get_or seats n empty_seat)) (sym here)
    (ap part (get_or-set_same seats seat now empty_seat there) ∙ same))
    (λ apart. ap part (get_or-set_other seats seat other now empty_seat apart))
    (cases_eq other seat)

-- and so where a change leaves the part of each seat, also of one that is not there
pub part-changed : {X : Type 0} (part : Seat → X) (change : Seat → Seat) → ((seat : Seat) → part (change seat) ≡ part seat) → (seats : List Seat)
    (seat other : ℕ) → part (get_or (set seats seat (change (get_or seats seat empty_seat))) other empty_seat) ≡ part (get_or seats other empty_seat)
part-changed part change same seats seat other =
    ⊎_elim
    (λ there. part-stays part seats seat (change (get_or seats seat empty_seat)) there (same (get_or seats seat empty_seat)) other)
    (λ past. ap (λ list. part (get_or list other empty_seat)) (set_past seats seat (change (get_or seats seat empty_seat)) past))
    (cases_lt seat (length seats))

-- the seats and what was submitted by them stay
pub seats-anew : (state : State) (change : Accepted → Accepted) → KeepsAsked change → (queries : List QueryLife) (seats : List Seat) (scan : ScanState) → length seats ≡ length state.seats
    → ((seat : ℕ) → (get_or seats seat empty_seat).submitted ≡ (get_or state.seats seat empty_seat).submitted)
    → All (IsSoundSeat state.numbers.statement (map change state.accepted) queries) seats → AreSoundSeats state → AreSoundSeats (kept_anew state change queries seats scan)
seats-anew state change keeps queries seats scan count stays each old = record {
  count = count ∙ old.count;
  each = each;
  apart = λ i j d before low statement has other.
      let earlier : i < length seats = omega arith in
      old.apart i j empty_seat before (subst (λ n. j < n) count low) statement
      (subst (λ submitted. Contains submitted statement) (same i d earlier) has)
      (subst (λ submitted. Contains submitted statement) (same j d low) other);
  rising = old.rising;
  entries = λ k d low. let entry = get_or state.entries k d in
      subst (λ submitted. Contains submitted entry.statement) (sym (stays entry.seat)) (old.entries k d low);
  queries = All-map (λ accepted. Contains (get_or seats accepted.seat empty_seat).submitted accepted.number) change state.accepted
      (λ k d low.
      let accepted = get_or state.accepted k d in
      let there : Contains (get_or seats accepted.seat empty_seat).submitted accepted.number =
      subst (λ submitted. Contains submitted accepted.number) (sym (stays accepted.seat)) (old.queries k d low) in
      by-change (λ a. Contains (get_or seats a.seat empty_seat).submitted a.number) change keeps accepted (λ groups. there));
}
  where
    same : (seat : ℕ) (d : Seat) → seat < length seats → (get_or seats seat d).submitted ≡ (get_or state.seats seat empty_seat).submitted
    same seat d low = ap (λ (s : Seat). s.submitted) (get_or_default seats seat d empty_seat low) ∙ stays seat

pub seat-there : (seats : List Seat) (seat number : ℕ) → Contains (get_or seats seat empty_seat).submitted number → seat < length seats
seat-there seats seat number has = ⊎_elim (λ inside. inside)
    (λ past. absurd (let none : Contains [] number =
    subst (λ (s : Seat). Contains s.submitted number) (get_or_past seats seat empty_seat past) has in
    let less = none.1 in omega arith)) (cases_lt seat (length seats))

-- a seat that waits for something is there
pub pending-there : (seats : List Seat) (seat : ℕ) (first : Pending) (rest : List Pending) → (get_or seats seat empty_seat).pending ≡ first ∷ rest
    → seat < length seats
pending-there seats seat first rest is = ⊎_elim (λ low. low)
    (λ past. let both : [] ≡ first ∷ rest = sym (ap (λ (s : Seat). s.pending) (get_or_past seats seat empty_seat past)) ∙ is in cc)
    (cases_lt seat (length seats))

-- a number stands in one seat
pub one-seat : (state : State) → AreSoundSeats state → (seat other number : ℕ) → Contains (get_or state.seats seat empty_seat).submitted number
    → Contains (get_or state.seats other empty_seat).submitted number → seat ≡ other
one-seat state sound seat other number here there = ⊎_elim (λ same. same) (λ apart. absurd (by_order apart (cases_lt seat other))) (cases_eq seat other)
  where
    by_order : seat ≢ other → (seat < other) ⊎ (other ≤ seat) → ⊥
    by_order apart (inl before) = sound.apart seat other empty_seat before (seat-there state.seats other number there) number here there
    by_order apart (inr after) = sound.apart other seat empty_seat (omega arith) (seat-there state.seats seat number here) number there here

-- what a seat waits for it submitted
pub pending-submitted : (state : State) (seat : Seat) → IsSoundSeat state.numbers.statement state.accepted state.lives.queries seat → All (λ pending. Contains seat.submitted pending.statement) seat.pending
pending-submitted state seat sound =
    awaited-there (Contains seat.submitted) (map (λ taken. taken.statement) seat.taken) seat.pending sound.submitted

-- what holds of a list holds without some of its end
all-fewer : {X : Type 0} (P : ℕ → Type 0) (number_of : X → ℕ) (p : X → Bool) (front : List ℕ) (ys : List X)
    → All P (front ++ map number_of ys) → All P (front ++ map number_of (filter p ys))
all-fewer P number_of p [] [] all = all
all-fewer P number_of p [] (y ∷ ys) all =
    by_test (p y) (all-fewer P number_of p [] ys (All-tail P (number_of y) (map number_of ys) all))
  where
    by_test : (t : Bool) → All P (map number_of (filter p ys)) → All P (map number_of (cond t (y ∷ filter p ys) (filter p ys)))
    by_test true rest = All-cons P (number_of y) (map number_of (filter p ys)) (All-head P (number_of y) (map number_of ys) all) rest
    by_test false rest = rest
all-fewer P number_of p (x ∷ front) ys all =
    All-cons P x (front ++ map number_of (filter p ys)) (All-head P x (front ++ map number_of ys) all)
    (all-fewer P number_of p front ys (All-tail P x (front ++ map number_of ys) all))

pairs-fewer : {X : Type 0} (R : ℕ → ℕ → Type 0) (number_of : X → ℕ) (p : X → Bool) (front : List ℕ) (ys : List X)
    → AllPairs R (front ++ map number_of ys) → AllPairs R (front ++ map number_of (filter p ys))
pairs-fewer R number_of p [] [] pairs = pairs
pairs-fewer R number_of p [] (y ∷ ys) pairs =
    by_test (p y) (pairs-fewer R number_of p [] ys (all_pairs_tail R (number_of y) (map number_of ys) pairs))
  where
    by_test : (t : Bool) → AllPairs R (map number_of (filter p ys)) → AllPairs R (map number_of (cond t (y ∷ filter p ys) (filter p ys)))
    by_test true rest = AllPairs-cons R (number_of y) (map number_of (filter p ys))
        (all-fewer (R (number_of y)) number_of p [] ys (all_pairs_head R (number_of y) (map number_of ys) pairs)) rest
    by_test false rest = rest
pairs-fewer R number_of p (x ∷ front) ys pairs =
    AllPairs-cons R x (front ++ map number_of (filter p ys))
    (all-fewer (R x) number_of p front ys (all_pairs_head R x (front ++ map number_of ys) pairs))
    (pairs-fewer R number_of p front ys (all_pairs_tail R x (front ++ map number_of ys) pairs))

-- a number of a list is the first, or one of the others
pub contains-cases : (first : ℕ) (rest : List ℕ) (number : ℕ) → Contains (first ∷ rest) number → (first ≡ number) ⊎ Contains rest number
contains-cases first rest number has =
    ⊎_elim (λ same. inl same) (λ apart. inr (Contains-tail first rest number apart has)) (cases_eq first number)

-- a number of a list is that of one that passes a test, or of one that does not
passes-cases : {X : Type 0} (number_of : X → ℕ) (p : X → Bool) (Q : ℕ → Type 0) → ((x : X) → p x ≡ false → Q (number_of x)) → (xs : List X) (number : ℕ)
    → Contains (map number_of xs) number → Contains (map number_of (filter p xs)) number ⊎ Q number
passes-cases number_of p Q fails [] number has = inl has
passes-cases {X = X} number_of p Q fails (x ∷ xs) number has =
    by_test (p x) refl (contains-cases (number_of x) (map number_of xs) number has) (passes-cases number_of p Q fails xs number)
  where
    rest : List ℕ
    rest = map number_of (filter p xs)

    by_test : (t : Bool) → p x ≡ t → (number_of x ≡ number) ⊎ Contains (map number_of xs) number
        → (Contains (map number_of xs) number → Contains rest number ⊎ Q number)
        → Contains (map number_of (cond {A = List X} t (x ∷ filter p xs) (filter p xs))) number ⊎ Q number
    by_test true is (inl same) others =
        inl (subst (Contains (number_of x ∷ rest)) same (Contains-append_left (number_of x ∷ []) rest (number_of x) (Contains-push [] (number_of x))))
    by_test true is (inr among) others =
        ⊎_elim (λ there. inl (Contains-append_right (number_of x ∷ []) rest number there)) (λ q. inr q) (others among)
    by_test false is (inl same) others = inr (subst Q same (fails x is))
    by_test false is (inr among) others = others among

-- a seat that waits for less is sound where what it waits for no more is abandoned
pub seat-fewer : (state : State) (change : Accepted → Accepted) → KeepsAsked change → (queries : List QueryLife) (p : Pending → Bool) (seat : Seat)
    → All (λ pending. IfSome (life_in state.lives.queries pending.statement) Wanted → IfSome (life_in queries pending.statement) Wanted) (filter p seat.pending)
    → ((number : ℕ) → IfSome (life_in state.lives.queries number) Told → IfSome (life_in queries number) Told) → StayLost state.lives.queries queries
    → ((pending : Pending) → p pending ≡ false → life_in queries pending.statement ≡ Some life.Abandoned)
    → IsSoundSeat state.numbers.statement state.accepted state.lives.queries seat
    → IsSoundSeat state.numbers.statement (map change state.accepted) queries (record seat { pending = filter p seat.pending })
seat-fewer state change keeps queries p seat wanted told lost dropped old =
    seat-waits state.numbers.statement state.numbers.statement state.accepted (map change state.accepted) state.lives.queries queries
    seat (filter p seat.pending) (omega arith) (λ number given. asked-anew state change keeps queries told lost number)
    (pairs-fewer (λ statement later. statement < later) (λ pending. pending.statement) p (map (λ taken. taken.statement) seat.taken)
    seat.pending old.in_order)
    (all-fewer (Contains seat.submitted) (λ pending. pending.statement) p (map (λ taken. taken.statement) seat.taken) seat.pending old.submitted)
    (All-filter p (λ pending. IsAwaited state.accepted state.lives.queries pending.statement pending.awaited) seat.pending old.awaited)
    (λ k d low given. wanted k d low)
    (All-weaker (IsAccountedFor state.lives.queries seat) (IsAccountedFor queries (record seat { pending = filter p seat.pending }))
    (λ number is. ⊎_elim (λ taken. inl taken) (λ other. inr (⊎_elim
    (λ waits. passes-cases (λ (pending : Pending). pending.statement) p (λ n. life_in queries n ≡ Some life.Abandoned) dropped seat.pending number waits)
    (λ was. inr (lost number was)) other)) is) seat.submitted old.whole) old
