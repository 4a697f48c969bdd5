-- What becomes of lives and of what is kept where queries find no memory for the rows of a batch.
use Rattle.core_state.proofs.Words.{◌||◌, ◌∙◌, ◌∷◌, ◌≡◌, [], Accepted, after_spoil, ap, Bool, cases_eq, cond, eq-eqb, eqb, eqb-true, false, fold, gets_rows, life_in-other, life_of, List, list_any, Lives, None, option_map_or, refl, subst, sym, true, unkept, ℕ, ⊎_elim}
use Rattle.pipeline_manager.specs.declared.life.Life.TheVariants as life
use Rattle.core_state.proofs.HandedSlotLemmas.{gets, gets-none}

-- the lives in which these queries have no answer
abbrev pub spoiled_all : List ℕ → Lives → Lives
spoiled_all queries lives = fold (λ now query. after_spoil query now) lives queries

pub slots-stay : (queries : List ℕ) (lives : Lives) → (spoiled_all queries lives).slots ≡ lives.slots
slots-stay [] lives = refl
slots-stay (query ∷ queries) lives = slots-stay queries (after_spoil query lives)

-- a query that gets no rows gets none where another has no answer
none-more : (query number : ℕ) (lives : Lives) → gets lives number ≡ false → gets (after_spoil query lives) number ≡ false
none-more query number lives none = ⊎_elim
    (λ same. ap (gets (after_spoil query lives)) same ∙ gets-none lives query life.Spoiled refl)
    (λ apart. ap (λ o. option_map_or gets_rows o false) (life_in-other lives.queries query number life.Spoiled apart) ∙ none)
    (cases_eq number query)

pub still-none : (queries : List ℕ) (number : ℕ) (lives : Lives) → gets lives number ≡ false → gets (spoiled_all queries lives) number ≡ false
still-none [] number lives none = none
still-none (query ∷ queries) number lives none =
    still-none queries number (after_spoil query lives) (none-more query number lives none)

-- one that is among those without an answer gets none
pub spoiled-none : (queries : List ℕ) (number : ℕ) (lives : Lives) → list_any (λ other. eqb other number) queries ≡ true
    → gets (spoiled_all queries lives) number ≡ false
spoiled-none [] number lives among = absurd (let both : false ≡ true = among in cc)
spoiled-none (query ∷ queries) number lives among =
    by_test (eqb query number) refl among (spoiled-none queries number (after_spoil query lives))
  where
    by_test : (t : Bool) → eqb query number ≡ t → (t || list_any (λ other. eqb other number) queries) ≡ true
        → (list_any (λ other. eqb other number) queries ≡ true → gets (spoiled_all queries (after_spoil query lives)) number ≡ false)
        → gets (spoiled_all queries (after_spoil query lives)) number ≡ false
    by_test true is any rest = still-none queries number (after_spoil query lives)
        (subst (λ n. gets (after_spoil query lives) n ≡ false) (eqb-true query number is) (gets-none lives query life.Spoiled refl))
    by_test false is any rest = rest any

-- and one that is not has the life that it had
pub others-stay : (queries : List ℕ) (number : ℕ) (lives : Lives) → list_any (λ other. eqb other number) queries ≡ false
    → life_of (spoiled_all queries lives) number ≡ life_of lives number
others-stay [] number lives none = refl
others-stay (query ∷ queries) number lives none =
    by_test (eqb query number) refl none (others-stay queries number (after_spoil query lives))
  where
    by_test : (t : Bool) → eqb query number ≡ t → (t || list_any (λ other. eqb other number) queries) ≡ false
        → (list_any (λ other. eqb other number) queries ≡ false
        → life_of (spoiled_all queries (after_spoil query lives)) number ≡ life_of (after_spoil query lives) number)
        → life_of (spoiled_all queries (after_spoil query lives)) number ≡ life_of lives number
    by_test true is any rest = absurd (let both : true ≡ false = any in cc)
    by_test false is any rest =
        rest any
        ∙ life_in-other lives.queries query number life.Spoiled
        (λ same. let both : true ≡ false = sym (eq-eqb query number (sym same)) ∙ is in cc)

-- one that is not among those without an answer is kept
pub still-kept : (queries : List ℕ) (number : ℕ) (accepted : Accepted) → accepted.number ≡ number
    → list_any (λ other. eqb other number) queries ≡ false → unkept queries accepted ≡ accepted
still-kept queries number accepted same none =
    ap (λ n. cond {A = Accepted} (list_any (λ other. eqb other n) queries) (record accepted { groups = None }) accepted) same
    ∙ ap (λ t. cond {A = Accepted} t (record accepted { groups = None }) accepted) none
