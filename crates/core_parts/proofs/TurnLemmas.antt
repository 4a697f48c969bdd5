-- Statements of which the first are not waited for, and what is written over one of them.
use Rattle.std.proofs.Common.{◌≡◌, ℕ, zero, suc, ◌+◌, ◌<◌, ◌≤◌, Bool, true, false, List, [], ◌∷◌, ◌++◌, length, get_or, set, take, drop, slice_get, find, Option, Some, None, IsSome, refl, ap, sym, subst, ◌∙◌, arith}
use Rattle.std.specs.List.{All}
use Rattle.std.proofs.lemmas.List.{drop-append-le, drop-drop, drop-set-lt, length-set, length_push, take-append-le, take_all, take_more_set}
use Rattle.std.proofs.lemmas.List.Elements.{All-cons, All-drop, All-head, All-more, All-nil, All-push, All-set, All-tail}
use Rattle.std.proofs.lemmas.Option.{get_or_from_slice_get, slice_get_within}
use Rattle.core_parts.specs.declared.submitted.Submitted.{Submitted}
use Rattle.core_parts.specs.Seats.{is_taken, is_waited, AreInTurn}
use Rattle.star_values.proofs.PlaceLemmas.{find-passes}

-- nobody waits for a statement
abbrev pub IsNotWaited : Submitted → Type 0
IsNotWaited submitted = is_waited submitted.standing ≡ false

-- the reply to a statement was not taken
abbrev pub IsNotTaken : Submitted → Type 0
IsNotTaken submitted = is_taken submitted.standing ≡ false

-- one place on, where nobody waits for the statement there
pub turn-more : (statements : List Submitted) (place : ℕ) (d : Submitted) → place < length statements
    → is_waited (get_or statements place d).standing ≡ false → AreInTurn place statements
    → AreInTurn (place + 1) statements
turn-more statements place d within other turn = record {
  in_range = omega arith;
  none_is_waited = All-more IsNotWaited statements place d within turn.none_is_waited other;
  none_is_taken = subst (All IsNotTaken) (drop-drop 1 place statements)
      (All-drop IsNotTaken 1 (drop place statements) turn.none_is_taken);
}

-- the first statement that passes a test is behind those of which none does
pub find-first : (p : Submitted → Bool) (statements : List Submitted) (place : ℕ) (d : Submitted)
    → All (λ submitted. p submitted ≡ false) (take place statements) → place < length statements → p (get_or statements place d) ≡ true
    → slice_get statements place ≡ find p statements
find-first p [] place d none within passes = absurd (omega arith)
find-first p (submitted ∷ statements) zero d none within passes = rw passes refl
find-first p (submitted ∷ statements) (suc place) d none within passes =
    rw (none zero submitted (omega arith))
    (find-first p statements place d (λ k e below. none (suc k) e (omega arith)) (omega arith) passes)

-- where none of all passes, none is found
find-nothing : (p : Submitted → Bool) (statements : List Submitted) → All (λ submitted. p submitted ≡ false) statements → find p statements ≡ None
find-nothing p [] none = refl
find-nothing p (submitted ∷ statements) none =
    rw (none zero submitted (omega arith)) (find-nothing p statements (λ k d below. none (suc k) d (omega arith)))

pub find-none : (p : Submitted → Bool) (statements : List Submitted) (place : ℕ) → length statements ≤ place
    → All (λ submitted. p submitted ≡ false) (take place statements) → find p statements ≡ None
find-none p statements place past none =
    find-nothing p statements (subst (All (λ submitted. p submitted ≡ false)) (take_all place statements past) none)

-- the first statement that is waited for, if any is
abbrev pub first_of : List Submitted → Option Submitted
first_of statements = find (λ submitted. is_waited submitted.standing) statements

-- the first statement that is waited for is at this place
pub record IsNext (place : ℕ) (statements : List Submitted) : Type 0 where
  pub within : place < length statements
  pub waited : (d : Submitted) → is_waited (get_or statements place d).standing ≡ true
  pub found : (d : Submitted) → first_of statements ≡ Some (get_or statements place d)

-- it is at the place that was found in the list, if any is waited for
pub next-found : (statements listed : List Submitted) (place : ℕ) → listed ≡ statements → slice_get listed place ≡ first_of listed
    → IsSome (first_of statements) → IsNext place statements
next-found statements listed place same at some = by_first (first_of statements) refl some
  where
    by_first : (o : Option Submitted) → first_of statements ≡ o → IsSome o → IsNext place statements
    by_first None is found = cc
    by_first (Some submitted) is found =
        let there : slice_get statements place ≡ Some submitted = subst (λ list. slice_get list place ≡ first_of list) same at ∙ is in
        record {
          within = slice_get_within statements place submitted there;
          waited = λ d. ap (λ s. is_waited s.standing) (get_or_from_slice_get statements place submitted d there)
              ∙ find-passes (λ submitted. is_waited submitted.standing) statements submitted is;
          found = λ d. is ∙ ap Some (sym (get_or_from_slice_get statements place submitted d there));
        }

-- a place past the last statement is at their end
pub turn-end : (statements : List Submitted) (place : ℕ) → length statements ≤ place → AreInTurn place statements
    → AreInTurn (length statements) statements
turn-end statements place past turn =
    let same : place ≡ length statements = let in_range = turn.in_range in omega arith in
    subst (λ count. AreInTurn count statements) same turn

-- a statement that is waited for, behind all others
pub turn-push : (statements : List Submitted) (next : ℕ) (submitted : Submitted) → is_taken submitted.standing ≡ false
    → AreInTurn next statements → AreInTurn next (statements ++ submitted ∷ [])
turn-push statements next submitted other turn = record {
  in_range = let more : length (statements ++ submitted ∷ []) ≡ length statements + 1 = length_push statements submitted in
      let in_range = turn.in_range in omega arith;
  none_is_waited = subst (All IsNotWaited) (sym (take-append-le next statements (submitted ∷ []) turn.in_range)) turn.none_is_waited;
  none_is_taken = subst (All IsNotTaken) (sym (drop-append-le next statements (submitted ∷ []) turn.in_range))
      (All-push IsNotTaken (drop next statements) submitted turn.none_is_taken other);
}

-- what is written over a statement of the first, or of the others
All-take_set : (P : Submitted → Type 0) (statements : List Submitted) (count place : ℕ) (submitted : Submitted) → P submitted
    → All P (take count statements) → All P (take count (set statements place submitted))
All-take_set P [] count place submitted its all = all
All-take_set P (first ∷ statements) zero place submitted its all = All-nil P
All-take_set P (first ∷ statements) (suc count) zero submitted its all = All-set P (first ∷ take count statements) 0 submitted its all
All-take_set P (first ∷ statements) (suc count) (suc place) submitted its all =
    All-cons P first (take count (set statements place submitted)) (All-head P first (take count statements) all)
    (All-take_set P statements count place submitted its (All-tail P first (take count statements) all))

All-drop_set : (P : Submitted → Type 0) (statements : List Submitted) (count place : ℕ) (submitted : Submitted) → P submitted
    → All P (drop count statements) → All P (drop count (set statements place submitted))
All-drop_set P [] count place submitted its all = all
All-drop_set P (first ∷ statements) zero place submitted its all = All-set P (first ∷ statements) place submitted its all
All-drop_set P (first ∷ statements) (suc count) zero submitted its all = all
All-drop_set P (first ∷ statements) (suc count) (suc place) submitted its all =
    All-drop_set P statements count place submitted its all

-- a statement that is neither waited for nor was taken, over any other
pub turn-abandoned : (statements : List Submitted) (next place : ℕ) (submitted : Submitted) → is_waited submitted.standing ≡ false
    → is_taken submitted.standing ≡ false → AreInTurn next statements → AreInTurn next (set statements place submitted)
turn-abandoned statements next place submitted not_waited not_taken turn = record {
  in_range = let many : length (set statements place submitted) ≡ length statements = length-set statements place submitted in
      let in_range = turn.in_range in omega arith;
  none_is_waited = All-take_set IsNotWaited statements next place submitted not_waited turn.none_is_waited;
  none_is_taken = All-drop_set IsNotTaken statements next place submitted not_taken turn.none_is_taken;
}

-- a statement that is no more waited for, over the next
pub turn-taken : (statements : List Submitted) (place : ℕ) (submitted : Submitted) → place < length statements
    → is_waited submitted.standing ≡ false → AreInTurn place statements → AreInTurn (place + 1) (set statements place submitted)
turn-taken statements place submitted within not_waited turn = record {
  in_range = let many : length (set statements place submitted) ≡ length statements = length-set statements place submitted in
      omega arith;
  none_is_waited = subst (All IsNotWaited) (sym (take_more_set statements place submitted within))
      (All-push IsNotWaited (take place statements) submitted turn.none_is_waited not_waited);
  none_is_taken = subst (All IsNotTaken) (drop-drop 1 place statements ∙ sym (drop-set-lt (place + 1) statements place submitted (omega arith)))
      (All-drop IsNotTaken 1 (drop place statements) turn.none_is_taken);
}
