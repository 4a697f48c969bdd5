-- What is asked of a batch in flight, by what the code asks of it, and the batch that has a number.
use Rattle.std.proofs.Common.{◌≡◌, ◌≢◌, ◌↔◌, ℕ, ◌<◌, Bool, true, false, eqb, List, length, get_or, slice_get, Option, Some, None, is_some, option_map, IsTrue, Decides, refl, ap, sym, ◌∙◌, subst, inl, inr, arith, eq-eqb}
use Rattle.std.specs.Prelude.{All, AllPairs, IsSomeAnd, find}
use Rattle.std.specs.Int.{bit_at}
use Rattle.std.specs.List.{list_all, position_or_len}
use Rattle.std.proofs.lemmas.Bool.{ne_eqb}
use Rattle.std.proofs.lemmas.Bool.Decides.{Decides-by_and, Decides-eqb}
use Rattle.std.proofs.lemmas.List.Folds.{find_at}
use Rattle.std.proofs.lemmas.List.Sums.{position_or_len_is}
use Rattle.std.proofs.lemmas.Option.{slice_get-get_or}
use Rattle.core_parts.specs.Filtered.{Filters, FilterVersion}
use Rattle.core_parts.specs.Filters.{next_of}
use Rattle.core_parts.specs.Flights.{Through, Wants}
use Rattle.core_parts.specs.Lent.{Flight}

-- a test that fails is not true
pub not-both : (t : Bool) → t ≡ false → ¬ (t ≡ true)
not-both t fails passes = absurd (let both : false ≡ true = sym fails ∙ passes in cc)

-- rows of which no bit is left
rows-empty : (bits : List ℕ) → Decides (list_all (λ word. eqb word 0) bits) (All (λ word. word ≡ 0) bits)
rows-empty bits =
    Decides-by_and (λ word. eqb word 0) (λ word. word ≡ 0) (list_all (λ word. eqb word 0)) (λ word. Decides-eqb word 0) refl
    (λ word rest. refl) bits

-- and rows of which one is
rows-left : (bits : List ℕ) → ¬ (All (λ word. word ≡ 0) bits) → list_all (λ word. eqb word 0) bits ≡ false
rows-left bits some = by_test (list_all (λ word. eqb word 0) bits) refl
  where
    by_test : (t : Bool) → list_all (λ word. eqb word 0) bits ≡ t → list_all (λ word. eqb word 0) bits ≡ false
    by_test true is = absurd (some ((rows-empty bits).0 is))
    by_test false is = is

-- an idle batch of which no bit is left is through
pub through-empty : (filters : Filters) (flight : Flight) (bits : List ℕ) (empty : Bool) → flight.hand ≡ None → bits ≡ flight.batch.bits
    → All (λ word. word ≡ 0) bits → empty ≡ true → IsTrue empty ↔ Through filters flight
through-empty filters flight bits empty free same none is = (
  (λ tested. record { idle = free; through = inr (ap (list_all (λ word. eqb word 0)) (sym same) ∙ (rows-empty bits).1 none) }),
  (λ through. is),
)

-- one of which a bit is left is through where it passed every filter
pub through-passed : (filters : Filters) (flight : Flight) (bits : List ℕ) (set : ℕ) (passed : Bool) → flight.hand ≡ None
    → bits ≡ flight.batch.bits → set ≡ flight.batch.passed → ¬ (All (λ word. word ≡ 0) bits)
    → passed ≡ list_all (λ dimension. eqb (bit_at set dimension) 1) filters.order → IsTrue passed ↔ Through filters flight
through-passed filters flight bits set passed free same alike some is = (
  (λ tested. record { idle = free; through = inl (sym every ∙ tested) }),
  (λ through. elim through.through [
    | inl all ↦ every ∙ all
    | inr none ↦ absurd (some ((rows-empty bits).0 (ap (list_all (λ word. eqb word 0)) same ∙ none)))
  ]),
)
  where
    every : passed ≡ list_all (λ dimension. eqb (bit_at flight.batch.passed dimension) 1) filters.order
    every = is ∙ ap (λ set. list_all (λ dimension. eqb (bit_at set dimension) 1) filters.order) alike

-- a batch in a hand is not through
pub held-not_through : (filters : Filters) (flight : Flight) → ¬ (flight.hand ≡ None) → IsTrue false ↔ Through filters flight
held-not_through filters flight held =
    ((λ does. absurd (not-both false refl does)), (λ through. absurd (held through.idle)))

-- nor does it want a filter
pub unwanted-held : (filters : Filters) (flight : Flight) → ¬ (flight.hand ≡ None) → IsTrue false ↔ Wants filters flight
unwanted-held filters flight held =
    ((λ does. absurd (not-both false refl does)), (λ wants. absurd (held wants.idle)))

-- nor does one of which no bit is left
pub unwanted-empty : (filters : Filters) (flight : Flight) (bits : List ℕ) (wants : Bool) → wants ≡ false → bits ≡ flight.batch.bits
    → All (λ word. word ≡ 0) bits → IsTrue wants ↔ Wants filters flight
unwanted-empty filters flight bits wants not same none = (
  (λ does. absurd (not-both wants not does)),
  (λ law. absurd (not-both (list_all (λ word. eqb word 0) flight.batch.bits) law.bits
      (ap (list_all (λ word. eqb word 0)) (sym same) ∙ (rows-empty bits).1 none))),
)

-- what is found stays found as it is read
is_some-mapped : {X Y : Type 0} (f : X → Y) (o : Option X) → is_some (option_map f o) ≡ is_some o
is_some-mapped f None = refl
is_some-mapped f (Some x) = refl

-- an idle batch of which a bit is left wants a filter where there is one that it meets next
pub wanted : {X : Type 0} (filters : Filters) (flight : Flight) (bits : List ℕ) (f : X → FilterVersion) (next : Option X) (wants : Bool)
    → flight.hand ≡ None → bits ≡ flight.batch.bits → ¬ (All (λ word. word ≡ 0) bits)
    → option_map f next ≡ next_of filters flight.batch → wants ≡ is_some next → IsTrue wants ↔ Wants filters flight
wanted filters flight bits f next wants free same some found is = (
  (λ tested. record {
    idle = free;
    bits = ap (list_all (λ word. eqb word 0)) (sym same) ∙ rows-left bits some;
    filter = sym there ∙ tested;
  }),
  (λ law. there ∙ law.filter),
)
  where
    there : wants ≡ is_some (next_of filters flight.batch)
    there = is ∙ sym (is_some-mapped f next) ∙ ap is_some found

-- where no two batches have the same number, the batch at a place is the one of its number
pub find-apart : (P : Flight → Type 0) (flights : List Flight) (place number : ℕ) (flight : Flight)
    → AllPairs (λ flight other. flight.batch.number ≢ other.batch.number) flights → place < length flights
    → flight ≡ get_or flights place flight → number ≡ flight.batch.number → P flight
    → IsSomeAnd (find (λ flight. eqb flight.batch.number number) flights) P
find-apart P flights place number flight apart low at is holds = subst (λ found. IsSomeAnd found P) (sym there) holds
  where
    test : Flight → Bool
    test other = eqb other.batch.number number

    here : number ≡ (get_or flights place flight).batch.number
    here = is ∙ ap (λ (flight : Flight). flight.batch.number) at

    earlier : (k : ℕ) → k < place → test (get_or flights k flight) ≡ false
    earlier k before =
        ne_eqb (get_or flights k flight).batch.number number (λ same. apart k place flight before low (same ∙ here))

    first : position_or_len test flights ≡ place
    first = position_or_len_is test flights place flight (omega arith) earlier
        (λ within. eq-eqb (get_or flights place flight).batch.number number (sym here))

    there : find test flights ≡ Some flight
    there = find_at test flights ∙ ap (slice_get flights) first ∙ slice_get-get_or flights place flight low ∙ ap Some (sym at)
