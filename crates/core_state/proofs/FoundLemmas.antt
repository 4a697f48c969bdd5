-- What is found in lists, and of queries whose lives change.
use Rattle.core_state.proofs.Words.{◌∙◌, ◌∷◌, ◌≡◌, ◌≢◌, [], Accepted, accepted_at, ap, Bool, cases_eq, cond, eq-eqb, eqb, eqb-true, extent_in, false, IfSome, IsSome, Life, life_in, List, map, ne_eqb, None, none-some, Option, option_map, option_map_or, passes, query_in, query_in-map, QueryLife, refl, renewed, renewed-number, same_Some, Some, subst, sym, true, with_life, ℕ, ⊎_elim}
use Rattle.std.proofs.Common.{find}
pub use Rattle.star_values.proofs.PlaceLemmas.{find-passes}

-- what is found stays, where a change leaves it, and nothing else comes to pass
pub find-left : {X : Type 0} (p : X → Bool) (change : X → X) → ((x : X) → p (change x) ≡ p x) → ((x : X) → p x ≡ true → change x ≡ x)
    → (xs : List X) → find p (map change xs) ≡ find p xs
find-left p change passes stays [] = refl
find-left {X = X} p change passes stays (x ∷ xs) =
    ap (λ t. cond {A = Option X} t (Some (change x)) (find p (map change xs))) (passes x)
    ∙ by_test (p x) refl (find-left p change passes stays xs)
  where
    by_test : (t : Bool) → p x ≡ t → find p (map change xs) ≡ find p xs
        → cond {A = Option X} t (Some (change x)) (find p (map change xs)) ≡ cond {A = Option X} t (Some x) (find p xs)
    by_test true is rest = ap Some (stays x is)
    by_test false is rest = rest

-- what is there
pub some-of : {X : Type 0} (o : Option X) → IsSome o → (x : X) × (o ≡ Some x)
some-of None some = absurd (let both : false ≡ true = some in cc)
some-of (Some x) some = (x, refl)

-- what passes a test is there
pub some-passes : {X : Type 0} (p : X → Bool) (o : Option X) → option_map_or p o false ≡ true → (x : X) × (o ≡ Some x) × (p x ≡ true)
some-passes p None passes = absurd (let both : false ≡ true = passes in cc)
some-passes p (Some x) passes = (x, refl, passes)

-- what is found of this number has it
pub accepted-number : (accepted : List Accepted) (query : ℕ) (a : Accepted) → accepted_at accepted query ≡ Some a → a.number ≡ query
accepted-number accepted query a found = eqb-true a.number query (find-passes (λ x. eqb x.number query) accepted a found)

-- and so has a life that is found
pub query_in-number : (queries : List QueryLife) (query : ℕ) (entry : QueryLife) → query_in queries query ≡ Some entry → entry.query ≡ query
query_in-number queries query entry found = eqb-true entry.query query (find-passes (λ e. eqb e.query query) queries entry found)

-- what holds of what is found holds where there is nothing, too
pub some-by : {X : Type 0} (P : X → Type 0) (o : Option X) → ((x : X) → o ≡ Some x → P x) → IfSome o P
some-by P None all = tt
some-by P (Some x) all = all x refl

pub some-at : {X : Type 0} (P : X → Type 0) (o : Option X) (x : X) → o ≡ Some x → IfSome o P → P x
some-at P o x is holds = subst (λ t. IfSome t P) is holds

-- a query is found by its life as by its number
pub some-life : (P : Life → Type 0) (queries : List QueryLife) (query : ℕ) → IfSome (query_in queries query) (λ e. P e.life) → IfSome (life_in queries query) P
some-life P queries query holds = by_found (query_in queries query) holds
  where
    by_found : (o : Option QueryLife) → IfSome o (λ e. P e.life) → IfSome (option_map (λ e. e.life) o) P
    by_found None h = tt
    by_found (Some e) h = h

pub life-found : (queries : List QueryLife) (query : ℕ) (entry : QueryLife) → query_in queries query ≡ Some entry → life_in queries query ≡ Some entry.life
life-found queries query entry found = ap (λ o. option_map (λ e. e.life) o) found

-- a life is that of a query that is found
pub life-entry : (queries : List QueryLife) (query : ℕ) (now : Life) → life_in queries query ≡ Some now
    → (entry : QueryLife) × (query_in queries query ≡ Some entry) × (entry.life ≡ now)
life-entry queries query now is = by_found (query_in queries query) refl is
  where
    by_found : (o : Option QueryLife) → query_in queries query ≡ o → option_map (λ e. e.life) o ≡ Some now
        → (entry : QueryLife) × (query_in queries query ≡ Some entry) × (entry.life ≡ now)
    by_found None found e = absurd (none-some now e)
    by_found (Some entry) found e = (entry, found, same_Some entry.life now e)

-- what holds of a query after another life is written: of the written one, and of the others as they were
pub with_life-found : (P : QueryLife → Type 0) (query : ℕ) (life : Life) (queries : List QueryLife) (number : ℕ)
    → ((entry : QueryLife) → query_in queries number ≡ Some entry → number ≡ query → P (record entry { life = life }))
    → ((entry : QueryLife) → query_in queries number ≡ Some entry → number ≢ query → P entry)
    → IfSome (query_in (with_life query life queries) number) P
with_life-found P query life queries number written others =
    subst (λ o. IfSome o P) (sym (query_in-map (renewed query life) (renewed-number query life) queries number))
    (by_found (query_in queries number) refl)
  where
    by_number : (entry : QueryLife) → query_in queries number ≡ Some entry → P (renewed query life entry)
    by_number entry found =
        let same = query_in-number queries number entry found in
        ⊎_elim
        (λ is. subst (λ t. P (cond {A = QueryLife} t (record entry { life = life }) entry)) (sym (eq-eqb entry.query query (same ∙ is))) (written entry found is))
        (λ other. subst (λ t. P (cond {A = QueryLife} t (record entry { life = life }) entry)) (sym (ne_eqb entry.query query (λ is. other (sym same ∙ is)))) (others entry found other))
        (cases_eq number query)

    by_found : (o : Option QueryLife) → query_in queries number ≡ o → IfSome (option_map (renewed query life) o) P
    by_found None is = tt
    by_found (Some entry) is = by_number entry is

-- the numbers stay in their order
pub with_life-numbers : (query : ℕ) (life : Life) (queries : List QueryLife)
    → map (λ entry. entry.query) (with_life query life queries) ≡ map (λ entry. entry.query) queries
with_life-numbers query life [] = refl
with_life-numbers query life (entry ∷ queries) =
    ap (λ number. number ∷ map (λ e. e.query) (with_life query life queries)) (renewed-number query life entry)
    ∙ ap (λ rest. entry.query ∷ rest) (with_life-numbers query life queries)

-- what held of the life that is written over, and holds of the new one for it, holds of each query as before
pub life-written : (P : Life → Type 0) (query : ℕ) (old new : Life) (queries : List QueryLife) (number : ℕ)
    → life_in queries query ≡ Some old → (P old → P new) → IfSome (life_in queries number) P
    → IfSome (life_in (with_life query new queries) number) P
life-written P query old new queries number was turns holds =
    some-life P (with_life query new queries) number
    (with_life-found (λ entry. P entry.life) query new queries number
    (λ entry found same.
    let here : life_in queries number ≡ Some old = subst (λ n. life_in queries n ≡ Some old) (sym same) was in
    turns (some-at P (life_in queries number) old here holds))
    (λ entry found apart. some-at P (life_in queries number) entry.life (life-found queries number entry found) holds))

-- where each life changes and each extent stays, what is found by a number has its extent
pub extents-stay : (change : QueryLife → QueryLife) → ((entry : QueryLife) → (change entry).query ≡ entry.query)
    → ((entry : QueryLife) → (change entry).extent ≡ entry.extent) → (queries : List QueryLife) (query : ℕ)
    → extent_in (map change queries) query ≡ extent_in queries query
extents-stay change numbers extents queries query =
    ap (λ o. option_map_or (λ (e : QueryLife). e.extent) o 0) (query_in-map change numbers queries query) ∙ by_found (query_in queries query)
  where
    by_found : (o : Option QueryLife)
        → option_map_or (λ (e : QueryLife). e.extent) (option_map change o) 0 ≡ option_map_or (λ (e : QueryLife). e.extent) o 0
    by_found None = refl
    by_found (Some entry) = extents entry

-- so where another life is written
pub extents-written : (query : ℕ) (new : Life) (queries : List QueryLife) (number : ℕ)
    → extent_in (with_life query new queries) number ≡ extent_in queries number
extents-written query new = extents-stay (renewed query new) (renewed-number query new) (λ entry. by_test entry (eqb entry.query query))
  where
    by_test : (entry : QueryLife) (t : Bool) → (cond {A = QueryLife} t (record entry { life = new }) entry).extent ≡ entry.extent
    by_test entry true = refl
    by_test entry false = refl

-- the life of the query that is found with this number
pub same-life : (queries : List QueryLife) (query number : ℕ) (old : Life) (entry : QueryLife) → life_in queries query ≡ Some old
    → query_in queries number ≡ Some entry → number ≡ query → entry.life ≡ old
same-life queries query number old entry was found same =
    let both : Some entry.life ≡ Some old = sym (life-found queries number entry found) ∙ subst (λ n. life_in queries n ≡ Some old) (sym same) was in cc

-- where no number is there, no life is
pub no-life : (queries : List QueryLife) → map (λ entry. entry.query) queries ≡ [] → (query : ℕ) → life_in queries query ≡ None
no-life [] none query = refl
no-life (entry ∷ queries) none query = cc

-- what two facts of an element give
pub both-some : {X : Type 0} (P Q R : X → Type 0) (o : Option X) → ((x : X) → P x → Q x → R x) → IfSome o P → IfSome o Q → IfSome o R
both-some P Q R None all p q = tt
both-some P Q R (Some x) all p q = all x p q
