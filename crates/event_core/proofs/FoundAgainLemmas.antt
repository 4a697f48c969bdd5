-- What is found by its number where a list grows by one at its end.
use Rattle.event_core.proofs.Words.{◌++◌, ◌∙◌, ◌∷◌, ◌≡◌, ◌≢◌, [], All, All-head, All-tail, ap, cond, eq-eqb, eqb, List, ne_eqb, None, Option, refl, Some, ℕ}
use Rattle.std.proofs.Common.{find}

-- another number is found as before
pub found-other : {X : Type 0} (number_of : X → ℕ) (xs : List X) (new : X) (number : ℕ) → number_of new ≢ number
    → find (λ x. eqb (number_of x) number) (xs ++ new ∷ []) ≡ find (λ x. eqb (number_of x) number) xs
found-other {X = X} number_of [] new number apart = ap (λ t. cond {A = Option X} t (Some new) None) (ne_eqb (number_of new) number apart)
found-other {X = X} number_of (first ∷ xs) new number apart =
    ap (λ rest. cond {A = Option X} (eqb (number_of first) number) (Some first) rest) (found-other number_of xs new number apart)

-- a new number is that of the last
pub found-last : {X : Type 0} (number_of : X → ℕ) (xs : List X) (new : X) → All (λ x. number_of x ≢ number_of new) xs
    → find (λ x. eqb (number_of x) (number_of new)) (xs ++ new ∷ []) ≡ Some new
found-last {X = X} number_of [] new apart = ap (λ t. cond {A = Option X} t (Some new) None) (eq-eqb (number_of new) (number_of new) refl)
found-last {X = X} number_of (first ∷ xs) new apart =
    ap (λ t. cond {A = Option X} t (Some first) (find (λ x. eqb (number_of x) (number_of new)) (xs ++ new ∷ [])))
    (ne_eqb (number_of first) (number_of new) (All-head (λ x. number_of x ≢ number_of new) first xs apart))
    ∙ found-last number_of xs new (All-tail (λ x. number_of x ≢ number_of new) first xs apart)

-- a number that none has is not found
pub found-nowhere : {X : Type 0} (number_of : X → ℕ) (xs : List X) (number : ℕ) → All (λ x. number_of x ≢ number) xs
    → find (λ x. eqb (number_of x) number) xs ≡ None
found-nowhere {X = X} number_of [] number apart = refl
found-nowhere {X = X} number_of (first ∷ xs) number apart =
    ap (λ t. cond {A = Option X} t (Some first) (find (λ x. eqb (number_of x) number) xs))
    (ne_eqb (number_of first) number (All-head (λ x. number_of x ≢ number) first xs apart))
    ∙ found-nowhere number_of xs number (All-tail (λ x. number_of x ≢ number) first xs apart)
