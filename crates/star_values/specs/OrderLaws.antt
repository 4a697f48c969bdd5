-- The orders of values and of rows are total, and their ties are values, or
-- rows, that are the same.
use Rattle.std.proofs.Common.{◌≡◌, refl, ap, subst, ◌↔◌, List, [], ◌∷◌}
use Rattle.std.specs.Bool.{Decides}
use Rattle.std.specs.Ordering.{ordering_reverse, ordering_then, eq_by_cmp}
use Rattle.std.specs.declared.cmp.Ordering.{Ordering}
use Rattle.std.specs.declared.cmp.Ordering.TheVariants.{Less, Equal, Greater}
use Rattle.std.specs.Cmp.{IsTotalOrder, Equal-is, int_cmp_total, int_ranks}
use Rattle.std.specs.Cmp.Lexicographic.{nat_list_cmp_total, texts_ties, bytes_decides, lists_total}
use Rattle.std.proofs.lemmas.Cmp.{tied_itself}
use Rattle.star_values.specs.declared.value.Value.{Value}
use Rattle.star_values.specs.declared.value.Value.TheVariants.{Int, Str}
use Rattle.star_values.specs.Value.{value_cmp, row_cmp}

-- turned round, a comparison has the other answer
antisymm : (x y : Value) → value_cmp x y ≡ ordering_reverse (value_cmp y x)
antisymm (Int m) (Int n) = int_cmp_total.antisymm m n
antisymm (Int m) (Str t) = refl
antisymm (Str s) (Int n) = refl
antisymm (Str s) (Str t) = nat_list_cmp_total.antisymm s t

-- less goes on over a value between two
trans : (x y z : Value) → value_cmp x y ≡ Less → value_cmp y z ≡ Less → value_cmp x z ≡ Less
trans (Int l) (Int m) (Int n) p q = int_cmp_total.trans l m n p q
trans (Int l) (Int m) (Str u) p q = refl
trans (Int l) (Str t) (Int n) p q = cc
trans (Int l) (Str t) (Str u) p q = refl
trans (Str s) (Int m) z p q = cc
trans (Str s) (Str t) (Int n) p q = cc
trans (Str s) (Str t) (Str u) p q = nat_list_cmp_total.trans s t u p q

-- values that tie compare alike with each other one
congr : (x y z : Value) → value_cmp x y ≡ Equal → value_cmp x z ≡ value_cmp y z
congr (Int l) (Int m) (Int n) p = int_cmp_total.congr l m n p
congr (Int l) (Int m) (Str u) p = refl
congr (Int l) (Str t) z p = cc
congr (Str s) (Int m) z p = cc
congr (Str s) (Str t) (Int n) p = refl
congr (Str s) (Str t) (Str u) p = nat_list_cmp_total.congr s t u p

-- the order of values is total
pub value_cmp-total : IsTotalOrder value_cmp
value_cmp-total = record { antisymm = antisymm; trans = trans; congr = congr }

-- values that tie are the same
same_from_tie : (x y : Value) → value_cmp x y ≡ Equal → x ≡ y
same_from_tie (Int m) (Int n) e = let same = rw e at (int_ranks m n) in ap Int same
same_from_tie (Int m) (Str t) e = cc
same_from_tie (Str s) (Int n) e = cc
same_from_tie (Str s) (Str t) e =
    let tied = rw e at (texts_ties s t) in ap Str ((bytes_decides s t).0 tied)

-- a tie is between a value and itself
pub value_cmp-equal : (x y : Value) → (value_cmp x y ≡ Equal) ↔ (x ≡ y)
value_cmp-equal x y = (
  same_from_tie x y,
  λ e. subst (λ (z : Value). value_cmp x z ≡ Equal) e (tied_itself value_cmp-total x),
)

-- the order of rows is total
pub row_cmp-total : IsTotalOrder row_cmp
row_cmp-total = lists_total value_cmp-total

-- where one decision after another is a tie, both are
first_tie : (p q : Ordering) → ordering_then p q ≡ Equal → p ≡ Equal
first_tie Less q e = e
first_tie Equal q e = refl
first_tie Greater q e = e

-- and the second one is, where the first is
then_tie : (p q : Ordering) → p ≡ Equal → ordering_then p q ≡ Equal → q ≡ Equal
then_tie Less q t e = cc
then_tie Equal q t e = e
then_tie Greater q t e = cc

-- rows that tie are the same
same_rows_from_tie : (xs ys : List Value) → row_cmp xs ys ≡ Equal → xs ≡ ys
same_rows_from_tie [] [] e = refl
same_rows_from_tie [] (y ∷ ys) e = cc
same_rows_from_tie (x ∷ xs) [] e = cc
same_rows_from_tie (x ∷ xs) (y ∷ ys) e =
    let tie = first_tie (value_cmp x y) (row_cmp xs ys) e in
    let first = same_from_tie x y tie in
    let rest = same_rows_from_tie xs ys (then_tie (value_cmp x y) (row_cmp xs ys) tie e) in
    λ i. first i ∷ rest i

-- a tie is between a row and itself
pub row_cmp-equal : (xs ys : List Value) → (row_cmp xs ys ≡ Equal) ↔ (xs ≡ ys)
row_cmp-equal xs ys = (
  same_rows_from_tie xs ys,
  λ e. subst (λ (zs : List Value). row_cmp xs zs ≡ Equal) e (tied_itself row_cmp-total xs),
)

-- equal by order means the same
pub row_cmp-decides : (xs ys : List Value) → Decides (eq_by_cmp row_cmp xs ys) (xs ≡ ys)
row_cmp-decides xs ys =
    let tied = Equal-is (row_cmp xs ys) in
    (λ e. (row_cmp-equal xs ys).0 (tied.0 e), λ e. tied.1 ((row_cmp-equal xs ys).1 e))
