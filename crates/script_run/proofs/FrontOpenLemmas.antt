-- Whether a seat waits for a query that may still be answered, and how much it waits for.
use Rattle.script_run.proofs.Words.{◌<◌, ◌∙◌, ◌∷◌, ◌≡◌, [], after_taking, All, All-head, All-tail, ap, arith, Bool, cond, drop, eqb, false, find, first_open, is_open, IsSome, length, life_in, life_of, List, Lives, next_ready, None, Option, option_and_then, option_map, option_map_or, Pending, QueryLife, ready_to, refl, Seat, seat_at, slice_get, Some, State, subst, sym, true, ℕ}
use Rattle.core_state.specs.Submitting.{Ready}
use Rattle.script_run.proofs.TakenLemmas.{seat-waits, split-first, taken-seat}

-- no query that is found by its number may still be answered, where none may
closed-life : (queries : List QueryLife) (query : ℕ) → All (λ entry. is_open entry.life ≡ false) queries
    → option_map_or is_open (life_in queries query) false ≡ false
closed-life [] query closed = refl
closed-life (entry ∷ queries) query closed =
    by_test (eqb entry.query query) (All-head (λ entry. is_open entry.life ≡ false) entry queries closed)
    (closed-life queries query (All-tail (λ entry. is_open entry.life ≡ false) entry queries closed))
  where
    by_test : (test : Bool) → is_open entry.life ≡ false → option_map_or is_open (life_in queries query) false ≡ false
        → option_map_or is_open (option_map (λ e. e.life) (cond {A = Option QueryLife} test (Some entry) (find (λ e. eqb e.query query) queries))) false ≡ false
    by_test true here rest = here
    by_test false here rest = rest

-- nothing is found that passes a test which nothing passes
find-nothing : (test : Pending → Bool) (pending : List Pending) → ((p : Pending) → test p ≡ false) → find test pending ≡ None
find-nothing test [] fails = refl
find-nothing test (first ∷ pending) fails =
    ap (λ t. cond {A = Option Pending} t (Some first) (find test pending)) (fails first) ∙ find-nothing test pending fails

-- no seat waits for a query that may still be answered, where none may
pub none-open : (lives : Lives) (seat : Seat) → All (λ entry. is_open entry.life ≡ false) lives.queries → first_open lives seat ≡ None
none-open lives seat closed =
    ap (option_map (λ p. p.statement))
    (find-nothing (λ p. option_map_or is_open (life_of lives p.statement) false) seat.pending
    (λ p. closed-life lives.queries p.statement closed))

-- what is not found is not found behind the first
find-behind : (test : Pending → Bool) (first : Pending) (pending : List Pending)
    → option_map (λ p. p.statement) (find test (first ∷ pending)) ≡ None → option_map (λ p. p.statement) (find test pending) ≡ None
find-behind test first pending = by_test (test first)
  where
    by_test : (t : Bool) → option_map (λ p. p.statement) (cond {A = Option Pending} t (Some first) (find test pending)) ≡ None
        → option_map (λ p. p.statement) (find test pending) ≡ None
    by_test true none = absurd (let both : Some first.statement ≡ None = none in cc)
    by_test false none = none

-- the first that is waited for, and what is waited for behind it
pub record IsBehind (seat : ℕ) (old new : State) (first : Pending) (rest : List Pending) : Type 0 where
  pub before : (seat_at old seat).pending ≡ first ∷ rest
  pub now : (seat_at new seat).pending ≡ rest

-- what is found is there
pub some-is : {A : Type 0} (x : A) (o : Option A) → Some x ≡ o → IsSome o
some-is x o is = subst IsSome is refl

-- where a reply may be taken something is waited for
pub first-waits : (seat : ℕ) (state : State) → IsSome (next_ready state seat)
    → (first : Pending) × (slice_get (seat_at state seat).pending 0 ≡ Some first)
first-waits seat state = by_first (slice_get (seat_at state seat).pending 0) refl
  where
    by_first : (o : Option Pending) → slice_get (seat_at state seat).pending 0 ≡ o
        → IsSome (option_and_then (λ pending. ready_to state pending.statement pending.awaited) o)
        → (first : Pending) × (slice_get (seat_at state seat).pending 0 ≡ Some first)
    by_first None is some = absurd (let both : false ≡ true = some in cc)
    by_first (Some first) is some = (first, is)

-- a reply is taken
pub taken-behind : (seat : ℕ) (old new : State) → IsSome (next_ready old seat) → new ≡ after_taking seat old
    → (first : Pending) × (rest : List Pending) × IsBehind seat old new first rest
taken-behind seat old new ready same =
    let waits = first-waits seat old ready in
    let split = split-first (seat_at old seat).pending waits.0 waits.1 in (
      waits.0,
      split.0,
      record {
        before = split.1;
        now = ap (λ state. (seat_at state seat).pending) same
            ∙ ap (λ (s : Seat). s.pending) (taken-seat seat old (seat-waits old seat waits.0 waits.1)) ∙ ap (drop 1) split.1;
      },
    )

-- and less is waited for
pub taken-less : (seat : ℕ) (old new : State) (x : Ready) → Some x ≡ next_ready old seat → new ≡ after_taking seat old
    → length (seat_at new seat).pending < length (seat_at old seat).pending
taken-less seat old new x may same =
    let behind = taken-behind seat old new (some-is x (next_ready old seat) may) same in
    let before = ap length behind.2.before in
    let now = ap length behind.2.now in
    omega (arith, before, now)

-- the first query that may still be answered, of those that are waited for
abbrev first_in : Lives → List Pending → Option ℕ
first_in lives pending = option_map (λ p. p.statement) (find (λ p. option_map_or is_open (life_of lives p.statement) false) pending)

-- where a seat waited for no query that may still be answered, it waits for none
pub taken-closed : (seat : ℕ) (old new : State) → IsSome (next_ready old seat) → new ≡ after_taking seat old
    → first_open old.lives (seat_at old seat) ≡ None → first_open new.lives (seat_at new seat) ≡ None
taken-closed seat old new ready same none =
    let behind = taken-behind seat old new ready same in
    let lives : new.lives ≡ old.lives = ap (λ state. state.lives) same in
    ap (λ l. first_in l (seat_at new seat).pending) lives ∙ ap (first_in old.lives) behind.2.now
    ∙ find-behind (λ p. option_map_or is_open (life_of old.lives p.statement) false) behind.0 behind.1
    (ap (first_in old.lives) (sym behind.2.before) ∙ none)
