-- The parts of a core where a reply was taken, and what was taken.
use Rattle.event_core.proofs.Words.{◌∙◌, ◌≡◌, after_taking, ap, AskedQuery, Becomes, Bool, cond, CoreParts, false, first_of, forgotten_at, Grouped, IfSome, is_open, IsAbandoned, IsAnswered, IsAsked, IsCore, IsRight, IsSome, IsSound, IsTaken, kept_for, Known, known_in, life_of, List, Lives, next_ready, None, none-some, not, Option, option_and_then, option_map_or, Pending, Ready, ready_with, refl, same_Some, seat_as, seat_at, set, slice_get, snapshot_for, Some, some-at, some-by, Standing, State, state_of, statements_at, Submitted, subst, sym, true, Waits, with_kept_at, with_taken, ℕ}
use Rattle.event_core.specs.Taking.{groups_or_memory, may_be_taken, next_number, number_to_take}

-- nothing may be taken where nothing is waited for
abbrev pub NothingNext : Type 0
NothingNext = (parts : CoreParts) (seat : ℕ) → IsCore parts → first_of (statements_at parts.seats seat) ≡ None
    → next_ready (state_of parts) seat ≡ None

-- or the first statement is a query that may still be answered
abbrev pub OpenNext : Type 0
OpenNext = (parts : CoreParts) (seat : ℕ) (first : Submitted) → IsCore parts → first_of (statements_at parts.seats seat) ≡ Some first
    → first.standing ≡ IsAsked → option_map_or is_open (life_of parts.lives first.number) false ≡ true
    → next_ready (state_of parts) seat ≡ None

-- what else may be taken
abbrev pub ClosedNext : Type 0
ClosedNext = (parts : CoreParts) (seat : ℕ) (first : Submitted) → IsCore parts → first_of (statements_at parts.seats seat) ≡ Some first
    → (first.standing ≡ IsAsked → option_map_or is_open (life_of parts.lives first.number) false ≡ false)
    → next_ready (state_of parts) seat
    ≡ Some (ready_with first.standing (snapshot_for parts.asked first.number) (kept_for parts.asked first.number))

-- and what becomes of the parts then
abbrev pub TakenNext : Type 0
TakenNext = (parts : CoreParts) (seat : ℕ) (first : Submitted) (statements : List Submitted) → IsCore parts
    → first_of (statements_at parts.seats seat) ≡ Some first → IsSome (next_ready (state_of parts) seat)
    → seat_as (known_in parts.asked) statements ≡ with_taken (seat_as (known_in parts.asked) (statements_at parts.seats seat))
    → Becomes (forgotten_at seat first.number statements parts) (after_taking seat (state_of parts))

-- what may be taken is right
abbrev pub RightNext : Type 0
RightNext = (state : State) (seat : ℕ) (pending : Pending) (ready : Ready) → IsSound state
    → slice_get (seat_at state seat).pending 0 ≡ Some pending → next_ready state seat ≡ Some ready
    → IsRight state pending.statement pending.awaited ready

-- a query that may still be answered is all that may not be taken
not-taken : (lives : Lives) (number : ℕ) (standing : Standing) → may_be_taken lives number standing ≡ false
    → (standing ≡ IsAsked) × (option_map_or is_open (life_of lives number) false ≡ true)
not-taken lives number (Waits answer) may = absurd (let both : true ≡ false = may in cc)
not-taken lives number IsAsked may = (refl, by_test (option_map_or is_open (life_of lives number) false) may)
  where
    by_test : (t : Bool) → not t ≡ false → t ≡ true
    by_test true e = refl
    by_test false e = absurd (let both : true ≡ false = e in cc)
not-taken lives number (IsTaken reply) may = absurd (let both : true ≡ false = may in cc)
not-taken lives number IsAnswered may = absurd (let both : true ≡ false = may in cc)
not-taken lives number IsAbandoned may = absurd (let both : true ≡ false = may in cc)

-- where the code finds no number, nothing may be taken
pub reply-nothing : NothingNext → OpenNext → (parts : CoreParts) (seat : ℕ) → IsCore parts
    → next_number parts.lives (statements_at parts.seats seat) ≡ None → next_ready (state_of parts) seat ≡ None
reply-nothing nothing opens parts seat core none = by_first (first_of (statements_at parts.seats seat)) refl none
  where
    by_test : (first : Submitted) → first_of (statements_at parts.seats seat) ≡ Some first → (t : Bool)
        → may_be_taken parts.lives first.number first.standing ≡ t → cond {A = Option ℕ} t (Some first.number) None ≡ None
        → next_ready (state_of parts) seat ≡ None
    by_test first is true may e = absurd (none-some first.number (sym e))
    by_test first is false may e =
        let asked = not-taken parts.lives first.number first.standing may in
        opens parts seat first core is asked.0 asked.1

    by_first : (o : Option Submitted) → first_of (statements_at parts.seats seat) ≡ o
        → option_and_then (number_to_take parts.lives) o ≡ None → next_ready (state_of parts) seat ≡ None
    by_first None is e = nothing parts seat core is
    by_first (Some first) is e = by_test first is (may_be_taken parts.lives first.number first.standing) refl e

-- the first statement that a seat waits for has this number, and may be taken
pub record IsNextAs (parts : CoreParts) (seat number : ℕ) (first : Submitted) : Type 0 where
  pub found : first_of (statements_at parts.seats seat) ≡ Some first
  pub number_is : first.number ≡ number
  pub closed : first.standing ≡ IsAsked → option_map_or is_open (life_of parts.lives first.number) false ≡ false

-- what may be taken is no query that may still be answered
is-closed : (lives : Lives) (number : ℕ) (standing : Standing) → may_be_taken lives number standing ≡ true → standing ≡ IsAsked
    → option_map_or is_open (life_of lives number) false ≡ false
is-closed lives number standing may asked =
    by_test (option_map_or is_open (life_of lives number) false) (sym (ap (may_be_taken lives number) asked) ∙ may)
  where
    by_test : (t : Bool) → not t ≡ true → t ≡ false
    by_test true e = absurd (let both : false ≡ true = e in cc)
    by_test false e = refl

-- the number that the code finds is that of such a statement
pub next-as : (parts : CoreParts) (seat number : ℕ) → next_number parts.lives (statements_at parts.seats seat) ≡ Some number
    → (first : Submitted) × IsNextAs parts seat number first
next-as parts seat number is = by_first (first_of (statements_at parts.seats seat)) refl is
  where
    by_test : (first : Submitted) → first_of (statements_at parts.seats seat) ≡ Some first → (t : Bool)
        → may_be_taken parts.lives first.number first.standing ≡ t → cond {A = Option ℕ} t (Some first.number) None ≡ Some number
        → (first : Submitted) × IsNextAs parts seat number first
    by_test first found true may e = (
      first,
      record {
        found = found;
        number_is = same_Some first.number number e;
        closed = is-closed parts.lives first.number first.standing may;
      },
    )
    by_test first found false may e = absurd (none-some number e)

    by_first : (o : Option Submitted) → first_of (statements_at parts.seats seat) ≡ o
        → option_and_then (number_to_take parts.lives) o ≡ Some number → (first : Submitted) × IsNextAs parts seat number first
    by_first None found e = absurd (none-some number e)
    by_first (Some first) found e = by_test first found (may_be_taken parts.lives first.number first.standing) refl e

-- the snapshot tells nothing where nothing is kept
ready-same : (standing : Standing) (given snapshot : ℕ) (groups : Option Grouped) → (IsSome groups → given ≡ snapshot)
    → ready_with standing given groups ≡ ready_with standing snapshot groups
ready-same (Waits answer) given snapshot groups same = refl
ready-same other given snapshot None same = refl
ready-same other given snapshot (Some groups) same = ap (λ n. groups_or_memory n (Some groups)) (same refl)

-- what the code has taken: the number that it found, how the statement stood, its snapshot where groups are kept, and these
pub record TakesFirst (parts : CoreParts) (seat number snapshot : ℕ) (groups : Option Grouped) (standing : Standing) (ready : Ready) : Type 0 where
  pub number_is : next_number parts.lives (statements_at parts.seats seat) ≡ Some number
  pub snapshot_is : IsSome groups → snapshot ≡ snapshot_for parts.asked number
  pub groups_are : groups ≡ kept_for parts.asked number
  pub standing_is : IfSome (first_of (statements_at parts.seats seat)) (λ submitted. submitted.standing ≡ standing)
  pub ready_is : ready ≡ ready_with standing snapshot groups

-- it is what may be taken
pub reply-ready : ClosedNext → (parts : CoreParts) (seat number snapshot : ℕ) (groups : Option Grouped) (standing : Standing) (ready : Ready)
    → IsCore parts → TakesFirst parts seat number snapshot groups standing ready → next_ready (state_of parts) seat ≡ Some ready
reply-ready closed parts seat number snapshot groups standing ready core took =
    closed parts seat first core there.1.found there.1.closed
    ∙ ap (λ n. Some (ready_with first.standing (snapshot_for parts.asked n) (kept_for parts.asked n))) there.1.number_is
    ∙ ap (λ s. Some (ready_with s (snapshot_for parts.asked number) (kept_for parts.asked number))) stands
    ∙ ap (λ o. Some (ready_with standing (snapshot_for parts.asked number) o)) (sym took.groups_are)
    ∙ ap Some (sym (took.ready_is ∙ ready-same standing snapshot (snapshot_for parts.asked number) groups took.snapshot_is))
  where
    there : (first : Submitted) × IsNextAs parts seat number first
    there = next-as parts seat number took.number_is

    first : Submitted
    first = there.0

    stands : first.standing ≡ standing
    stands = some-at (λ (s : Submitted). s.standing ≡ standing) (first_of (statements_at parts.seats seat)) first there.1.found took.standing_is

-- what the code has written: the seat that took the reply, and nothing beside the query of the number
pub record WritesFirst (parts : CoreParts) (seat number : ℕ) (seats : List (List Submitted)) (asked : List AskedQuery) : Type 0 where
  pub seat_takes : (known : List Known) → seat_as known (statements_at seats seat) ≡ with_taken (seat_as known (statements_at parts.seats seat))
  pub others_stay : seats ≡ set parts.seats seat (statements_at seats seat)
  pub asked_are : asked ≡ with_kept_at number None parts.asked

-- the parts stand for the core that has taken it
pub reply-becomes : TakenNext → (parts : CoreParts) (seat number : ℕ) (ready : Ready) (seats : List (List Submitted)) (asked : List AskedQuery)
    → IsCore parts → next_number parts.lives (statements_at parts.seats seat) ≡ Some number → next_ready (state_of parts) seat ≡ Some ready
    → WritesFirst parts seat number seats asked
    → Becomes (record parts { seats = seats; asked = asked }) (after_taking seat (state_of parts))
reply-becomes taken parts seat number ready seats asked core is next wrote =
    subst (λ list. Becomes (record parts { seats = list; asked = asked }) (after_taking seat (state_of parts))) (sym wrote.others_stay)
    (subst (λ list. Becomes (record parts { seats = set parts.seats seat (statements_at seats seat); asked = list }) (after_taking seat (state_of parts)))
    (sym wrote.asked_are)
    (subst (λ n. Becomes (forgotten_at seat n (statements_at seats seat) parts) (after_taking seat (state_of parts))) there.1.number_is
    (taken parts seat there.0 (statements_at seats seat) core there.1.found (subst (λ o. IsSome o) (sym next) refl)
    (wrote.seat_takes (known_in parts.asked)))))
  where
    there : (first : Submitted) × IsNextAs parts seat number first
    there = next-as parts seat number is

-- what was taken is right
pub reply-right : RightNext → (parts : CoreParts) (seat : ℕ) (ready : Ready) → IsCore parts → next_ready (state_of parts) seat ≡ Some ready
    → IfSome (slice_get (seat_at (state_of parts) seat).pending 0)
    (λ pending. IsRight (state_of parts) pending.statement pending.awaited ready)
reply-right right parts seat ready core next =
    some-by (λ (pending : Pending). IsRight (state_of parts) pending.statement pending.awaited ready)
    (slice_get (seat_at (state_of parts) seat).pending 0)
    (λ pending is. right (state_of parts) seat pending ready core.sound is next)
