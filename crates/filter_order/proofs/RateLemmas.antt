-- Drop rates are totally ordered, and so are the numbers of filters by them.
use Rattle.std.proofs.Common.{◌≡◌, ℕ, ◌*◌, ◌<◌, Bool, true, false, List, refl, ap, sym, ◌∙◌, arith, nat_eq, ◌==◌, if◌then◌else◌}
use Rattle.std.proofs.Math.Nat.{mul_right_comm, mul-lt-mul_of_pos_right}
use Rattle.std.specs.Cmp.{IsTotalOrder, IsStrictWeakOrder}
use Rattle.std.specs.Ordering.{is_lt, nat_cmp, ordering_reverse, ordering_then}
use Rattle.std.specs.declared.cmp.Ordering.{Ordering}
use Rattle.std.specs.declared.cmp.Ordering.TheVariants.{Less, Equal, Greater}
use Rattle.std.proofs.lemmas.Bool.Decides.{nat_tests}
use Rattle.std.proofs.lemmas.Cmp.{ranked, nat_cmp_total, then_total, on_total}
use Rattle.std.proofs.lemmas.List.MinMax.{ranks_by}
use Rattle.dimension_filter.specs.declared.drop_tally.DropTally.{DropTally}
use Rattle.filter_order.specs.Rates.{rate_cmp, tally_of, number_cmp, comes_before}

less : (x y : ℕ) → x < y → nat_cmp x y ≡ Less
less x y below = grind (arith, nat_tests)

equal : (x y : ℕ) → x ≡ y → nat_cmp x y ≡ Equal
equal x y same = grind (arith, nat_tests)

-- numbers stand as their multiples do
scaled : (k x y : ℕ) → 0 < k → nat_cmp (x * k) (y * k) ≡ nat_cmp x y
scaled k x y some = by_answer (nat_cmp x y) refl
  where
    by_answer : (r : Ordering) → r ≡ nat_cmp x y → nat_cmp (x * k) (y * k) ≡ nat_cmp x y
    by_answer Less e = less (x * k) (y * k) (mul-lt-mul_of_pos_right (ranked x y Less e) some) ∙ e
    by_answer Equal e = equal (x * k) (y * k) (ap (λ z. z * k) (ranked x y Equal e)) ∙ e
    by_answer Greater e =
        nat_cmp_total.antisymm (x * k) (y * k)
        ∙ ap ordering_reverse (less (y * k) (x * k) (mul-lt-mul_of_pos_right (ranked x y Greater e) some)) ∙ e

-- what drops more than what drops more drops more
chained : (p d q e r f : ℕ) → 0 < p → 0 < q → 0 < r → nat_cmp (e * p) (d * q) ≡ Less → nat_cmp (f * q) (e * r) ≡ Less
    → nat_cmp (f * p) (d * r) ≡ Less
chained p d q e r f some_p some_q some_r h k =
    let lower : nat_cmp (f * p * q) (e * p * r) ≡ Less =
    ap (λ n. nat_cmp n (e * p * r)) (mul_right_comm f p q) ∙ ap (nat_cmp (f * q * p)) (mul_right_comm e p r) ∙ scaled p (f * q) (e * r) some_p ∙ k in
    let upper : nat_cmp (e * p * r) (d * r * q) ≡ Less =
    ap (nat_cmp (e * p * r)) (mul_right_comm d r q) ∙ scaled r (e * p) (d * q) some_r ∙ h in
    sym (scaled q (f * p) (d * r) some_q) ∙ nat_cmp_total.trans (f * p * q) (e * p * r) (d * r * q) lower upper

-- rates that are equal stand alike to a third
tied : (p d q e r f : ℕ) → 0 < p → 0 < q → nat_cmp (e * p) (d * q) ≡ Equal → nat_cmp (f * p) (d * r) ≡ nat_cmp (f * q) (e * r)
tied p d q e r f some_p some_q h =
    let same : e * p ≡ d * q = ranked (e * p) (d * q) Equal (sym h) in
    let third : d * r * q ≡ e * r * p = mul_right_comm d r q ∙ ap (λ n. n * r) (sym same) ∙ mul_right_comm e p r in
    sym (scaled q (f * p) (d * r) some_q)
    ∙ ap (λ n. nat_cmp n (d * r * q)) (mul_right_comm f p q)
    ∙ ap (nat_cmp (f * q * p)) third
    ∙ scaled p (f * q) (e * r) some_p

-- how two rates stand that have no probes, each, or else stand as the last argument says
by_tests : Bool → Bool → Ordering → Ordering
by_tests none other_none by_rate = if none then (if other_none then Equal else Greater) else (if other_none then Less else by_rate)

flipped : (s t : Bool) (r back : Ordering) → r ≡ ordering_reverse back → by_tests s t r ≡ ordering_reverse (by_tests t s back)
unfolding by_tests
flipped true true r back h = refl
flipped true false r back h = refl
flipped false true r back h = refl
flipped false false r back h = h

chain : (s t u : Bool) (a b c : Ordering) → (s ≡ false → t ≡ false → u ≡ false → a ≡ Less → b ≡ Less → c ≡ Less)
    → by_tests s t a ≡ Less → by_tests t u b ≡ Less → by_tests s u c ≡ Less
unfolding by_tests
chain true true u a b c step h k = cc
chain true false u a b c step h k = cc
chain false true true a b c step h k = cc
chain false true false a b c step h k = cc
chain false false true a b c step h k = refl
chain false false false a b c step h k = step refl refl refl h k

alike : (s t u : Bool) (a b c : Ordering) → (s ≡ false → t ≡ false → a ≡ Equal → c ≡ b)
    → by_tests s t a ≡ Equal → by_tests s u c ≡ by_tests t u b
unfolding by_tests
alike true true u a b c step h = refl
alike true false u a b c step h = cc
alike false true u a b c step h = cc
alike false false true a b c step h = refl
alike false false false a b c step h = step refl refl h

positive : (p : ℕ) → (p == 0) ≡ false → 0 < p
positive p h = grind (arith, nat_tests)

pub rate_total : IsTotalOrder rate_cmp
unfolding by_tests
rate_total = record {
  antisymm = λ x y.
      flipped (x.probes == 0) (y.probes == 0) (nat_cmp (y.drops * x.probes) (x.drops * y.probes)) (nat_cmp (x.drops * y.probes) (y.drops * x.probes))
      (nat_cmp_total.antisymm (y.drops * x.probes) (x.drops * y.probes));
  trans = λ x y z.
      chain (x.probes == 0) (y.probes == 0) (z.probes == 0) (nat_cmp (y.drops * x.probes) (x.drops * y.probes))
      (nat_cmp (z.drops * y.probes) (y.drops * z.probes)) (nat_cmp (z.drops * x.probes) (x.drops * z.probes))
      (λ s t u. chained x.probes x.drops y.probes y.drops z.probes z.drops (positive _ s) (positive _ t) (positive _ u));
  congr = λ x y z.
      alike (x.probes == 0) (y.probes == 0) (z.probes == 0) (nat_cmp (y.drops * x.probes) (x.drops * y.probes))
      (nat_cmp (z.drops * y.probes) (y.drops * z.probes)) (nat_cmp (z.drops * x.probes) (x.drops * z.probes))
      (λ s t. tied x.probes x.drops y.probes y.drops z.probes z.drops (positive _ s) (positive _ t));
}

pub number_total : (tallies : List DropTally) → IsTotalOrder (number_cmp tallies)
unfolding number_cmp
number_total tallies = then_total (on_total (tally_of tallies) rate_total) nat_cmp_total

pub before_weak : (tallies : List DropTally) → IsStrictWeakOrder (comes_before tallies)
before_weak tallies = ranks_by (number_total tallies) (λ (number : ℕ). number)

-- of two filters one comes before the other
pub one_before : (tallies : List DropTally) (a b : ℕ) → nat_eq a b ≡ false → comes_before tallies b a ≡ false → comes_before tallies a b ≡ true
unfolding number_cmp
one_before tallies a b apart behind = by_answer (number_cmp tallies a b) refl
  where
    by_answer : (r : Ordering) → r ≡ number_cmp tallies a b → comes_before tallies a b ≡ true
    by_answer Less e = ap is_lt (sym e)
    by_answer Equal e = absurd (same (rate_cmp (tally_of tallies a) (tally_of tallies b)) e)
      where
        same : (r : Ordering) → Equal ≡ ordering_then r (nat_cmp a b) → ⊥
        same Less h = cc
        same Equal h = let level = ranked a b Equal h in grind (arith, nat_tests)
        same Greater h = cc
    by_answer Greater e =
        let ahead : comes_before tallies b a ≡ true = ap is_lt ((number_total tallies).antisymm b a ∙ ap ordering_reverse (sym e)) in
        let wrong : true ≡ false = sym ahead ∙ behind in
        cc
