-- What is found in a list comes in the list's order.
use Rattle.core_state.proofs.Words.{◌∷◌, [], cons_option, filter_map, IsPermutation, IsPermutation-refl, IsPermutation-trans, List, None, Option, Some}
use Rattle.std.proofs.lemmas.List.Sorted.{IsPermutation-cons, IsPermutation-middle}
use Rattle.star_plan.proofs.PermutationLemmas.{carried}

found_under : {A B : Type 0} (h : A → Option B) (xs ys : List A) (o : Option B) → IsPermutation (filter_map h xs) (filter_map h ys)
    → IsPermutation (cons_option o (filter_map h xs)) (cons_option o (filter_map h ys))
found_under h xs ys None same = same
found_under h xs ys (Some b) same = IsPermutation-cons b (filter_map h xs) (filter_map h ys) same

found_flip : {B : Type 0} (xs : List B) (o p : Option B) → IsPermutation (cons_option o (cons_option p xs)) (cons_option p (cons_option o xs))
found_flip xs None None = IsPermutation-refl xs
found_flip xs None (Some b) = IsPermutation-refl (b ∷ xs)
found_flip xs (Some a) None = IsPermutation-refl (a ∷ xs)
found_flip xs (Some a) (Some b) = IsPermutation-middle (a ∷ []) b xs

-- what is found in another order
pub filter_map-IsPermutation : {A B : Type 0} (h : A → Option B) (xs ys : List A) → IsPermutation xs ys → IsPermutation (filter_map h xs) (filter_map h ys)
filter_map-IsPermutation h = carried (λ xs ys. IsPermutation (filter_map h xs) (filter_map h ys))
    (λ xs. IsPermutation-refl (filter_map h xs))
    (λ xs ys zs e g. IsPermutation-trans (filter_map h xs) (filter_map h ys) (filter_map h zs) e g)
    (λ x xs ys e. found_under h xs ys (h x) e)
    (λ x y xs. found_flip (filter_map h xs) (h x) (h y))
