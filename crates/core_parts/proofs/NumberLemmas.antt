-- Statements whose numbers rise, and the one of a number.
use Rattle.std.proofs.Common.{◌≡◌, ℕ, zero, suc, ◌<◌, ◌≤◌, Bool, true, false, not, ◌&&◌, eqb, List, [], ◌∷◌, length, get_or, set, map, slice_get, filter, Option, Some, None, refl, ap, sym, ◌∙◌, arith, eq-eqb, ◌⊎◌, inl, inr}
use Rattle.std.specs.List.{AllPairs, filter_map, cons_option}
use Rattle.std.specs.Option.{option_map_or}
use Rattle.std.specs.List.Sorted.{IsPartitionPoint}
use Rattle.std.proofs.lemmas.Bool.{cases_lt, eqb-true, ne_eqb}
use Rattle.std.proofs.lemmas.List.{get_or-map, length-map}
use Rattle.std.proofs.lemmas.Option.{slice_get-get_or}
use Rattle.core_parts.specs.Seated.{Pending}
use Rattle.core_parts.specs.Seated.{without_pending}
use Rattle.core_parts.specs.declared.submitted.Standing.TheVariants.{IsAbandoned}
use Rattle.core_parts.specs.declared.submitted.Submitted.{Submitted}
use Rattle.core_parts.specs.Known.{Known}
use Rattle.core_parts.specs.Seats.{is_waited, is_waited_as, pending_as, seat_as, standing_as, IsWaitedAt, NoneIsWaitedAs}
use Rattle.core_parts.proofs.SeatLemmas.{numbers-stand, pending-waited, pending_as-none, same_seats, taken_as, taken_as-none, waited-is_taken}

-- their numbers rise
abbrev pub NumbersRise : List Submitted → Type 0
NumbersRise statements = AllPairs (λ statement later. statement < later) (map (λ submitted. submitted.number) statements)

-- of two statements the later has the greater number
pub rise : (statements : List Submitted) → NumbersRise statements → (j k : ℕ) (d : Submitted) → j < k → k < length statements
    → (get_or statements j d).number < (get_or statements k d).number
rise statements rising j k d before within =
    let many : length (map (λ (submitted : Submitted). submitted.number) statements) ≡ length statements = length-map statements (λ submitted. submitted.number) in
    let first = get_or-map (λ (submitted : Submitted). submitted.number) statements j d d.number (omega arith) in
    let second = get_or-map (λ (submitted : Submitted). submitted.number) statements k d d.number within in
    let less = rising j k d.number before (omega arith) in
    omega arith

tail_rises : (submitted : Submitted) (statements : List Submitted) → NumbersRise (submitted ∷ statements) → NumbersRise statements
tail_rises submitted statements rising = λ j k d low within. rising (suc j) (suc k) d (omega arith) (omega arith)

-- a statement of another number is not waited for as that one
other_number : (number : ℕ) (submitted : Submitted) → (submitted.number ≡ number → ⊥) → is_waited_as number submitted ≡ false
other_number number submitted other = rw (ne_eqb submitted.number number other) refl

-- where the place at which a number would stand does not have it, no statement of it is waited for
pub none-waited_as : (statements : List Submitted) (place number : ℕ) → NumbersRise statements
    → IsPartitionPoint (λ submitted. submitted.number < number) (λ submitted. number ≤ submitted.number) statements place
    → option_map_or (is_waited_as number) (slice_get statements place) false ≡ false → NoneIsWaitedAs number statements
none-waited_as statements place number rising halves other = λ k d within. by_cases k d within (cases_lt k place)
  where
    by_cases : (k : ℕ) (d : Submitted) → k < length statements → (k < place) ⊎ (place ≤ k) → is_waited_as number (get_or statements k d) ≡ false
    by_cases k d within (inl before) =
        other_number number (get_or statements k d) (λ same. let less = halves.0 k d (omega arith) before in omega arith)
    by_cases k d within (inr behind) = by_places (cases_lt place k)
      where
        by_places : (place < k) ⊎ (k ≤ place) → is_waited_as number (get_or statements k d) ≡ false
        by_places (inl after) =
            let least = halves.1 place d (omega arith) (omega arith) in
            let less = rise statements rising place k d after within in
            other_number number (get_or statements k d) (λ same. omega arith)
        by_places (inr there) =
            let same : k ≡ place = omega arith in
            let at : slice_get statements k ≡ Some (get_or statements k d) = slice_get-get_or statements k d within in
            rw (sym same, at) at other

-- what is not waited for as a number stays pending without that number
cons-other : (number : ℕ) (o : Option Pending) (pending : List Pending)
    → option_map_or (λ p. not (eqb p.statement number)) o true ≡ true
    → filter (λ p. not (eqb p.statement number)) (cons_option o pending) ≡ cons_option o (filter (λ p. not (eqb p.statement number)) pending)
cons-other number None pending other = refl
cons-other number (Some first) pending other = rw other refl

pending-other : (known : List Known) (number : ℕ) (submitted : Submitted) → is_waited_as number submitted ≡ false
    → option_map_or (λ p. not (eqb p.statement number)) (pending_as known submitted) true ≡ true
pending-other known number submitted other = by_test (is_waited submitted.standing) refl
  where
    and-left : (a b : Bool) → b ≡ true → a && b ≡ false → a ≡ false
    and-left true true b e = e
    and-left true false b e = cc
    and-left false b t e = refl

    by_test : (t : Bool) → is_waited submitted.standing ≡ t
        → option_map_or (λ p. not (eqb p.statement number)) (pending_as known submitted) true ≡ true
    by_test true waited =
        let found = pending-waited known submitted.number submitted.standing waited in
        rw (found.1.is, found.1.statement) (ap not (and-left (eqb submitted.number number) (is_waited submitted.standing) waited other))
    by_test false not_waited = rw (pending_as-none known submitted.number submitted.standing not_waited) refl

-- where no statement of the number is waited for, the seat stays
pending-without : (known : List Known) (number : ℕ) (statements : List Submitted) → NoneIsWaitedAs number statements
    → filter_map (pending_as known) statements ≡ filter (λ p. not (eqb p.statement number)) (filter_map (pending_as known) statements)
pending-without known number [] none = refl
pending-without known number (submitted ∷ statements) none =
    ap (cons_option (pending_as known submitted)) (pending-without known number statements (λ k d below. none (suc k) d (omega arith)))
    ∙ sym (cons-other number (pending_as known submitted) (filter_map (pending_as known) statements)
    (pending-other known number submitted (none zero submitted (omega arith))))

pub seat-without : (known : List Known) (number : ℕ) (statements : List Submitted) → NoneIsWaitedAs number statements
    → seat_as known statements ≡ without_pending number (seat_as known statements)
seat-without known number statements none = same_seats _ _ refl (pending-without known number statements none) refl

-- the parts of a test that passes
waited_as-number : (number : ℕ) (submitted : Submitted) → is_waited_as number submitted ≡ true → submitted.number ≡ number
waited_as-number number submitted waited = eqb-true submitted.number number (and-first (eqb submitted.number number) (is_waited submitted.standing) waited)
  where
    and-first : (a b : Bool) → a && b ≡ true → a ≡ true
    and-first true b e = refl
    and-first false b e = e

waited_as-waited : (number : ℕ) (submitted : Submitted) → is_waited_as number submitted ≡ true → is_waited submitted.standing ≡ true
waited_as-waited number submitted waited = and-second (eqb submitted.number number) (is_waited submitted.standing) waited
  where
    and-second : (a b : Bool) → a && b ≡ true → b ≡ true
    and-second true b e = e
    and-second false b e = cc

-- the statement at a place, once it is abandoned
abbrev pub abandoned_at : List Submitted → (place : ℕ) → Submitted → List Submitted
abandoned_at statements place d = set statements place (standing_as IsAbandoned (get_or statements place d))

-- what is pending loses it
pending-abandoned : (known : List Known) (number : ℕ) (statements : List Submitted) (place : ℕ) (d : Submitted) → NumbersRise statements
    → place < length statements → is_waited_as number (get_or statements place d) ≡ true
    → filter_map (pending_as known) (abandoned_at statements place d)
    ≡ filter (λ p. not (eqb p.statement number)) (filter_map (pending_as known) statements)
pending-abandoned known number [] place d rising within waited = absurd (omega arith)
pending-abandoned known number (submitted ∷ statements) zero d rising within waited =
    let found = pending-waited known submitted.number submitted.standing (waited_as-waited number submitted waited) in
    let same = waited_as-number number submitted waited in
    rw (found.1.is, found.1.statement, eq-eqb submitted.number number same)
    (pending-without known number statements
    (λ k e below. other_number number (get_or statements k e)
    (λ equal. let less = rise (submitted ∷ statements) rising zero (suc k) e (omega arith) (omega arith) in omega arith)))
pending-abandoned known number (submitted ∷ statements) (suc place) d rising within waited =
    let inside : place < length statements = omega arith in
    let same = waited_as-number number (get_or statements place d) waited in
    let less = rise (submitted ∷ statements) rising zero (suc place) d (omega arith) within in
    ap (cons_option (pending_as known submitted)) (pending-abandoned known number statements place d (tail_rises submitted statements rising) inside waited)
    ∙ sym (cons-other number (pending_as known submitted) (filter_map (pending_as known) statements)
    (pending-other known number submitted (other_number number submitted (λ equal. omega arith))))

-- what was taken stays
taken-abandoned : (known : List Known) (statements : List Submitted) (place : ℕ) (d : Submitted) → place < length statements
    → is_waited (get_or statements place d).standing ≡ true
    → filter_map (taken_as known) (abandoned_at statements place d) ≡ filter_map (taken_as known) statements
taken-abandoned known [] place d within waited = absurd (omega arith)
taken-abandoned known (submitted ∷ statements) zero d within waited =
    rw (taken_as-none known submitted.number submitted.standing (waited-is_taken submitted.standing waited)) refl
taken-abandoned known (submitted ∷ statements) (suc place) d within waited =
    ap (cons_option (taken_as known submitted)) (taken-abandoned known statements place d (omega arith) waited)

-- the seat that does not wait for a statement any more
pub seat-abandoned : (known : List Known) (number : ℕ) (statements : List Submitted) (place : ℕ) (d : Submitted) → NumbersRise statements
    → IsWaitedAt number place statements
    → seat_as known (abandoned_at statements place d) ≡ without_pending number (seat_as known statements)
seat-abandoned known number statements place d rising there =
    same_seats _ _ (numbers-stand statements place d IsAbandoned)
    (pending-abandoned known number statements place d rising there.within (there.waited d))
    (taken-abandoned known statements place d there.within (waited_as-waited number (get_or statements place d) (there.waited d)))
