-- What becomes of a seat where one of its statements stands otherwise.
use Rattle.std.proofs.Common.{◌≡◌, ℕ, zero, suc, ◌<◌, Bool, true, false, ◌&&◌, cond, List, [], ◌∷◌, ◌++◌, length, get_or, set, take, drop, map, slice_get, find, Option, Some, None, option_map, option_and_then, refl, ap, sym, subst, ◌∙◌, arith}
use Rattle.std.specs.List.{filter_map, cons_option}
use Rattle.core_parts.specs.Seated.{Pending, Replied, Seat, Taken}
use Rattle.core_parts.specs.Seated.{taken_by, with_taken}
use Rattle.core_parts.specs.declared.submitted.Standing.{Standing}
use Rattle.core_parts.specs.declared.submitted.Standing.TheVariants.{Waits, IsAsked, IsTaken, IsAnswered, IsAbandoned}
use Rattle.core_parts.specs.declared.submitted.Submitted.{Submitted}
use Rattle.core_parts.specs.Known.{Known}
use Rattle.core_parts.specs.Seats.{asked_as, is_taken, is_waited, pending_as, seat_as, standing_as, took_as, when_taken, AreInTurn, NoneIsTaken, NoneIsWaited}

-- a statement whose reply a seat took, if it took it
abbrev pub taken_as : List Known → Submitted → Option Taken
taken_as known submitted = took_as known submitted.number submitted.standing

-- the numbers stay
pub numbers-stand : (statements : List Submitted) (place : ℕ) (d : Submitted) (standing : Standing)
    → map (λ submitted. submitted.number) (set statements place (standing_as standing (get_or statements place d)))
    ≡ map (λ submitted. submitted.number) statements
numbers-stand [] place d standing = refl
numbers-stand (submitted ∷ statements) zero d standing = refl
numbers-stand (submitted ∷ statements) (suc place) d standing =
    ap (λ numbers. submitted.number ∷ numbers) (numbers-stand statements place d standing)

-- what is not waited for is not pending
pub pending_as-none : (known : List Known) (number : ℕ) (standing : Standing) → is_waited standing ≡ false
    → pending_as known (record { number = number; standing = standing }) ≡ None
pending_as-none known number (Waits answer) other = cc
pending_as-none known number IsAsked other = cc
pending_as-none known number rest other = refl

-- what was not taken is none of what was taken
pub taken_as-none : (known : List Known) (number : ℕ) (standing : Standing) → is_taken standing ≡ false
    → taken_as known (record { number = number; standing = standing }) ≡ None
taken_as-none known number (IsTaken reply) other = cc
taken_as-none known number IsAnswered other = cc
taken_as-none known number rest other = refl

-- what is waited for was not taken
pub waited-is_taken : (standing : Standing) → is_waited standing ≡ true → is_taken standing ≡ false
waited-is_taken (IsTaken reply) waited = cc
waited-is_taken IsAnswered waited = cc
waited-is_taken other waited = refl

-- a statement is not waited for, once its reply is taken
pub when_taken-is_waited : (standing : Standing) → is_waited (when_taken standing) ≡ false
when_taken-is_waited (Waits answer) = refl
when_taken-is_waited other = refl

-- what is waited for is pending, with its number
pub record IsPendingAs (known : List Known) (number : ℕ) (standing : Standing) (pending : Pending) : Type 0 where
  pub is : pending_as known (record { number = number; standing = standing }) ≡ Some pending
  pub statement : pending.statement ≡ number
  pub taken : taken_as known (record { number = number; standing = when_taken standing }) ≡ Some (taken_by pending)

pub pending-waited : (known : List Known) (number : ℕ) (standing : Standing) → is_waited standing ≡ true
    → (pending : Pending) × IsPendingAs known number standing pending
pending-waited known number (Waits answer) waited =
    (record { statement = number; awaited = Replied answer }, record { is = refl; statement = refl; taken = refl })
pending-waited known number IsAsked waited =
    (record { statement = number; awaited = asked_as known number }, record { is = refl; statement = refl; taken = refl })
pending-waited known number (IsTaken reply) waited = cc
pending-waited known number IsAnswered waited = cc
pending-waited known number IsAbandoned waited = cc

-- of statements none of which was taken, nothing was taken
taken-none : (known : List Known) (statements : List Submitted) → NoneIsTaken 0 statements → filter_map (taken_as known) statements ≡ []
taken-none known [] none = refl
taken-none known (submitted ∷ statements) none =
    rw (taken_as-none known submitted.number submitted.standing (none zero submitted (omega arith)))
    (taken-none known statements (λ k d below. none (suc k) d (omega arith)))

-- the first pending statement is the first that is waited for
pub pending-first : (known : List Known) (statements : List Submitted)
    → option_and_then (pending_as known) (find (λ submitted. is_waited submitted.standing) statements)
    ≡ slice_get (filter_map (pending_as known) statements) 0
pending-first known [] = refl
pending-first known (submitted ∷ statements) = by_test (is_waited submitted.standing) refl (pending-first known statements)
  where
    by_test : (t : Bool) → is_waited submitted.standing ≡ t
        → option_and_then (pending_as known) (find (λ submitted. is_waited submitted.standing) statements)
        ≡ slice_get (filter_map (pending_as known) statements) 0
        → option_and_then (pending_as known) (find (λ submitted. is_waited submitted.standing) (submitted ∷ statements))
        ≡ slice_get (filter_map (pending_as known) (submitted ∷ statements)) 0
    by_test true waited rest =
        let found = pending-waited known submitted.number submitted.standing waited in
        rw (waited, found.1.is) refl
    by_test false other rest = rw (other, pending_as-none known submitted.number submitted.standing other) rest

-- the statement at a place, once its reply is taken
abbrev pub taken_at : List Submitted → (place : ℕ) → Submitted → List Submitted
taken_at statements place d =
    set statements place (standing_as (when_taken (get_or statements place d).standing) (get_or statements place d))

-- what is pending loses its first
pending-taken : (known : List Known) (statements : List Submitted) (place : ℕ) (d : Submitted) → NoneIsWaited place statements
    → place < length statements → is_waited (get_or statements place d).standing ≡ true
    → filter_map (pending_as known) (taken_at statements place d) ≡ drop 1 (filter_map (pending_as known) statements)
pending-taken known [] place d none within waited = absurd (omega arith)
pending-taken known (submitted ∷ statements) zero d none within waited =
    let found = pending-waited known submitted.number submitted.standing waited in
    rw (found.1.is, pending_as-none known submitted.number (when_taken submitted.standing) (when_taken-is_waited submitted.standing)) refl
pending-taken known (submitted ∷ statements) (suc place) d none within waited =
    rw (pending_as-none known submitted.number submitted.standing (none zero submitted (omega arith)))
    (pending-taken known statements place d (λ k e below. none (suc k) e (omega arith)) (omega arith) waited)

cons-append : (o : Option Taken) (first second : List Taken) → cons_option o (first ++ second) ≡ cons_option o first ++ second
cons-append None first second = refl
cons-append (Some taken) first second = refl

-- what was taken gains it
taken-taken : (known : List Known) (statements : List Submitted) (place : ℕ) (d : Submitted) → NoneIsWaited place statements
    → NoneIsTaken place statements → place < length statements → is_waited (get_or statements place d).standing ≡ true
    → filter_map (taken_as known) (taken_at statements place d)
    ≡ filter_map (taken_as known) statements ++ map taken_by (take 1 (filter_map (pending_as known) statements))
taken-taken known [] place d none fresh within waited = absurd (omega arith)
taken-taken known (submitted ∷ statements) zero d none fresh within waited =
    let found = pending-waited known submitted.number submitted.standing waited in
    rw (
      found.1.is,
      found.1.taken,
      taken_as-none known submitted.number submitted.standing (waited-is_taken submitted.standing waited),
      taken-none known statements (λ k e below. fresh (suc k) e (omega arith)),
    ) refl
taken-taken known (submitted ∷ statements) (suc place) d none fresh within waited =
    rw (pending_as-none known submitted.number submitted.standing (none zero submitted (omega arith)))
    (ap (cons_option (taken_as known submitted))
    (taken-taken known statements place d (λ k e below. none (suc k) e (omega arith)) fresh (omega arith) waited)
    ∙ cons-append (taken_as known submitted) (filter_map (taken_as known) statements)
    (map taken_by (take 1 (filter_map (pending_as known) statements))))

-- two seats are one where their parts are
pub same_seats : (one other : Seat) → one.submitted ≡ other.submitted → one.pending ≡ other.pending → one.taken ≡ other.taken → one ≡ other
same_seats one other submitted pending taken =
    ap (λ list. record { submitted = list; pending = one.pending; taken = one.taken }) submitted
    ∙ ap (λ list. record { submitted = other.submitted; pending = list; taken = one.taken }) pending
    ∙ ap (λ list. record { submitted = other.submitted; pending = other.pending; taken = list }) taken

-- the seat that takes the reply to the first statement that it waits for
pub seat-taken : (known : List Known) (statements : List Submitted) (place : ℕ) (d : Submitted) → AreInTurn place statements
    → place < length statements → is_waited (get_or statements place d).standing ≡ true
    → seat_as known (taken_at statements place d) ≡ with_taken (seat_as known statements)
seat-taken known statements place d turn within waited =
    same_seats _ _ (numbers-stand statements place d (when_taken (get_or statements place d).standing))
    (pending-taken known statements place d turn.none_is_waited within waited)
    (taken-taken known statements place d turn.none_is_waited turn.none_is_taken within waited)

-- of the pending statements the first whose number passes a test is the first that is waited for and passes it
pub open-first : (known : List Known) (test : ℕ → Bool) (statements : List Submitted)
    → option_map (λ submitted. submitted.number) (find (λ submitted. is_waited submitted.standing && test submitted.number) statements)
    ≡ option_map (λ pending. pending.statement) (find (λ pending. test pending.statement) (filter_map (pending_as known) statements))
open-first known test [] = refl
open-first known test (submitted ∷ statements) = by_test (is_waited submitted.standing) refl (open-first known test statements)
  where
    by_both : (t : Bool) (pending : Pending) (some : Option Submitted) (found : Option Pending) → pending.statement ≡ submitted.number
        → option_map (λ submitted. submitted.number) some ≡ option_map (λ pending. pending.statement) found
        → option_map (λ submitted. submitted.number) (cond {A = Option Submitted} t (Some submitted) some)
        ≡ option_map (λ pending. pending.statement) (cond {A = Option Pending} t (Some pending) found)
    by_both true pending some found same rest = ap Some (sym same)
    by_both false pending some found same rest = rest

    by_test : (t : Bool) → is_waited submitted.standing ≡ t
        → option_map (λ submitted. submitted.number) (find (λ submitted. is_waited submitted.standing && test submitted.number) statements)
        ≡ option_map (λ pending. pending.statement) (find (λ pending. test pending.statement) (filter_map (pending_as known) statements))
        → option_map (λ submitted. submitted.number) (find (λ submitted. is_waited submitted.standing && test submitted.number) (submitted ∷ statements))
        ≡ option_map (λ pending. pending.statement) (find (λ pending. test pending.statement) (filter_map (pending_as known) (submitted ∷ statements)))
    by_test true waited rest =
        let found = pending-waited known submitted.number submitted.standing waited in
        rw (waited, found.1.is)
        (subst (λ n. option_map (λ submitted. submitted.number)
        (cond {A = Option Submitted} (test submitted.number) (Some submitted) (find (λ submitted. is_waited submitted.standing && test submitted.number) statements))
        ≡ option_map (λ pending. pending.statement)
        (cond {A = Option Pending} (test n) (Some found.0) (find (λ pending. test pending.statement) (filter_map (pending_as known) statements))))
        (sym found.1.statement)
        (by_both (test submitted.number) found.0 _ _ found.1.statement rest))
    by_test false other rest = rw (other, pending_as-none known submitted.number submitted.standing other) rest
