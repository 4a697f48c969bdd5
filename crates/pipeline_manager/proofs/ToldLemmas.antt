-- Two bits for each query that was let go, in two sets.
use Rattle.std.proofs.Common.{◌≡◌, ℕ, ◌/◌, ◌%◌, ◌^◌, ◌<◌, Bool, true, false, cond, eqb, eq-eqb, ◌&&◌, ◌||◌, List, [], ◌∷◌, ◌++◌, length, get_or, set, Some, None, option_map, refl, ap, sym, ◌∙◌, subst, arith, inl, inr, ◌⊎◌}
use Rattle.std.specs.Int.{bit_at}
use Rattle.std.specs.List.{All}
use Rattle.std.proofs.lemmas.Bool.{cases_eq, ne_eqb}
use Rattle.std.proofs.lemmas.List.{get_or-set_same, get_or-set_other, set-get_or}
use Rattle.std.proofs.lemmas.Nat.Bits.{bit_at-lt, bit_at-pow_same, bit_at-pow_other, bit_at_or}
use Rattle.bit_words.specs.Sets.{with_number}
use Rattle.star_values.proofs.RisingLemmas.{IsMissing}
use Rattle.pipeline_manager.specs.declared.life.Life.{Life}
use Rattle.pipeline_manager.specs.declared.life.Life.TheVariants.{Answered, Spoiled, Abandoned}
use Rattle.pipeline_manager.specs.declared.life.QueryLife.{QueryLife}
use Rattle.pipeline_manager.specs.Lives.{life_in}
use Rattle.pipeline_manager.specs.Conditions.{is_open}
use Rattle.pipeline_manager.specs.LetGo.{AreTold, is_first, is_in, is_second, life_by}
use Rattle.pipeline_manager.proofs.LifeLemmas.{query_in-push_same, query_in-push_other}
use Rattle.pipeline_manager.proofs.QueryLemmas.{query_in-missing}

-- a bit that is set in a word
set_bit : (word bit : ℕ) → bit_at (with_number word bit) bit ≡ 1
set_bit word bit =
    let all = bit_at_or word (2 ^ bit) bit in
    let here = bit_at-pow_same bit in
    let few = bit_at-lt word bit in
    omega arith

other_bit : (word bit other : ℕ) → (other ≡ bit → ⊥) → bit_at (with_number word bit) other ≡ bit_at word other
other_bit word bit other apart =
    let all = bit_at_or word (2 ^ bit) other in
    let there = bit_at-pow_other bit other apart in
    omega arith

or-false : (b : Bool) → b ≡ (b || false)
or-false true = refl
or-false false = refl

or-true : (b : Bool) → true ≡ (b || true)
or-true true = refl
or-true false = refl

-- the words after a number was put in
abbrev with_in : List ℕ → (number : ℕ) → List ℕ
with_in words number = set words (number / 64) (with_number (get_or words (number / 64) 0) (number % 64))

at_place : (words : List ℕ) (number place : ℕ) → number / 64 < length words → place ≡ number / 64
    → get_or (with_in words number) place 0 ≡ with_number (get_or words (number / 64) 0) (number % 64)
at_place words number place within same =
    ap (λ k. get_or (with_in words number) k 0) same
    ∙ get_or-set_same words (number / 64) (with_number (get_or words (number / 64) 0) (number % 64)) 0 within

elsewhere : (words : List ℕ) (number place : ℕ) → (place ≡ number / 64 → ⊥) → get_or (with_in words number) place 0 ≡ get_or words place 0
elsewhere words number place apart =
    get_or-set_other words (number / 64) place (with_number (get_or words (number / 64) 0) (number % 64)) 0 apart

kept-in : (words : List ℕ) (number other : ℕ) → number / 64 < length words → (number ≡ other → ⊥)
    → (other / 64 ≡ number / 64) ⊎ (other / 64 ≡ number / 64 → ⊥) → is_in (with_in words number) other ≡ is_in words other
kept-in words number other within apart (inl same) =
    let bits : other % 64 ≡ number % 64 → ⊥ = λ equal. apart (omega arith) in
    ap (λ w. eqb (bit_at w (other % 64)) 1) (at_place words number (other / 64) within same)
    ∙ ap (λ b. eqb b 1) (other_bit (get_or words (number / 64) 0) (number % 64) (other % 64) bits)
    ∙ ap (λ k. eqb (bit_at (get_or words k 0) (other % 64)) 1) (sym same)
kept-in words number other within apart (inr differ) =
    ap (λ w. eqb (bit_at w (other % 64)) 1) (elsewhere words number (other / 64) differ)

-- the set after a number was put in
put-in : (words : List ℕ) (number other : ℕ) → number / 64 < length words
    → is_in (with_in words number) other ≡ (is_in words other || eqb number other)
put-in words number other within = by_same (cases_eq number other)
  where
    by_same : (number ≡ other) ⊎ (number ≡ other → ⊥) → is_in (with_in words number) other ≡ (is_in words other || eqb number other)
    by_same (inl same) =
        ap (is_in (with_in words number)) (sym same)
        ∙ ap (λ w. eqb (bit_at w (number % 64)) 1) (at_place words number (number / 64) within refl)
        ∙ ap (λ b. eqb b 1) (set_bit (get_or words (number / 64) 0) (number % 64))
        ∙ or-true (is_in words other)
        ∙ ap (λ b. is_in words other || b) (sym (eq-eqb number other same))
    by_same (inr apart) =
        kept-in words number other within apart (cases_eq (other / 64) (number / 64))
        ∙ or-false (is_in words other)
        ∙ ap (λ b. is_in words other || b) (sym (ne_eqb number other apart))

-- the same, if that is wanted
pub put-in_if : (words : List ℕ) (number : ℕ) (wanted : Bool) (other : ℕ) → number / 64 < length words
    → is_in (set words (number / 64) (cond {A = ℕ} wanted (with_number (get_or words (number / 64) 0) (number % 64)) (get_or words (number / 64) 0))) other
    ≡ (is_in words other || (wanted && eqb number other))
put-in_if words number true other within = put-in words number other within
put-in_if words number false other within =
    ap (λ list. is_in list other) (set-get_or words (number / 64) 0) ∙ or-false (is_in words other)

-- two bits that tell no life are not set
none-told : (first second : Bool) → None ≡ life_by first second → (first ≡ false) × (second ≡ false)
none-told false false none = (refl, refl)
none-told false true none = cc
none-told true false none = cc
none-told true true none = cc

-- the bits of a life that is over
bits-tell : (life : Life) → is_open life ≡ false → Some life ≡ life_by (is_first life) (is_second life)
bits-tell Answered over = refl
bits-tell Spoiled over = refl
bits-tell Abandoned over = refl
bits-tell other over = cc

and-true : (b : Bool) → (b && true) ≡ b
and-true true = refl
and-true false = refl

and-false : (b : Bool) → (b && false) ≡ false
and-false true = refl
and-false false = refl

-- one query more, behind those that were let go
pub told-more : (queries : List QueryLife) (first second more others : List ℕ) (entry : QueryLife) → AreTold queries first second
    → is_open entry.life ≡ false → All (λ other. other.query < entry.query) queries
    → ((number : ℕ) → is_in more number ≡ (is_in first number || (is_first entry.life && eqb entry.query number)))
    → ((number : ℕ) → is_in others number ≡ (is_in second number || (is_second entry.life && eqb entry.query number)))
    → AreTold (queries ++ entry ∷ []) more others
told-more queries first second more others entry told over above in_first in_second = λ query. by_same query (cases_eq query entry.query)
  where
    missing : IsMissing (λ (e : QueryLife). e.query) entry.query queries
    missing = λ k d within same. let below = above k d within in omega arith

    unset : (is_in first entry.query ≡ false) × (is_in second entry.query ≡ false)
    unset = none-told (is_in first entry.query) (is_in second entry.query)
        (ap (option_map (λ (e : QueryLife). e.life)) (sym (query_in-missing queries entry.query missing)) ∙ told entry.query)

    set_as : (old wanted : Bool) → old ≡ false → (old || (wanted && eqb entry.query entry.query)) ≡ wanted
    set_as old wanted none =
        ap (λ b. b || (wanted && eqb entry.query entry.query)) none
        ∙ ap (λ b. wanted && b) (eq-eqb entry.query entry.query refl) ∙ and-true wanted

    kept_as : (old wanted : Bool) (query : ℕ) → (query ≡ entry.query → ⊥) → (old || (wanted && eqb entry.query query)) ≡ old
    kept_as old wanted query apart =
        ap (λ b. old || (wanted && b)) (ne_eqb entry.query query (λ equal. apart (sym equal)))
        ∙ ap (λ b. old || b) (and-false wanted) ∙ sym (or-false old)

    at_entry : life_in (queries ++ entry ∷ []) entry.query ≡ life_by (is_in more entry.query) (is_in others entry.query)
    at_entry =
        ap (option_map (λ (e : QueryLife). e.life)) (query_in-push_same queries entry missing)
        ∙ bits-tell entry.life over
        ∙ ap (λ b. life_by b (is_second entry.life))
        (sym (in_first entry.query ∙ set_as (is_in first entry.query) (is_first entry.life) unset.0))
        ∙ ap (λ b. life_by (is_in more entry.query) b)
        (sym (in_second entry.query ∙ set_as (is_in second entry.query) (is_second entry.life) unset.1))

    by_same : (query : ℕ) → (query ≡ entry.query) ⊎ (query ≡ entry.query → ⊥)
        → life_in (queries ++ entry ∷ []) query ≡ life_by (is_in more query) (is_in others query)
    by_same query (inl same) =
        subst (λ k. life_in (queries ++ entry ∷ []) k ≡ life_by (is_in more k) (is_in others k)) (sym same) at_entry
    by_same query (inr apart) =
        ap (option_map (λ (e : QueryLife). e.life)) (query_in-push_other queries entry query apart)
        ∙ told query
        ∙ ap (λ b. life_by b (is_in second query)) (sym (in_first query ∙ kept_as (is_in first query) (is_first entry.life) query apart))
        ∙ ap (λ b. life_by (is_in more query) b) (sym (in_second query ∙ kept_as (is_in second query) (is_second entry.life) query apart))
