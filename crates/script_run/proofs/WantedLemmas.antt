-- At which places memory was wanted, as a statement comes in front.
use Rattle.script_run.proofs.Words.{◌<◌, ◌∙◌, ◌∷◌, ◌≡◌, ◌≤◌, ◌||◌, [], All, All-cons, All-head, All-tail, All-weaker, ap, arith, Bool, Change, effect_of, eq-eqb, false, history_after, if◌then◌else◌, is_wanted_at, List, Memory, ne_eqb, replies_after, refl, Reply, Statement, store_of, suc, sym, true, ℕ}

-- replies by whether memory was wanted at the first place
by_test : (test : Bool) (first : Reply) {left left' right right' : List Reply} → left ≡ left' → right ≡ right'
    → (if test then Memory ∷ left else (first ∷ right)) ≡ (if test then Memory ∷ left' else (first ∷ right'))
by_test true first e f = ap (λ replies. Memory ∷ replies) e
by_test false first e f = ap (λ replies. first ∷ replies) f

-- a place before is none where memory is wanted now
pub past-wanted : (past : ℕ) (wanted : List ℕ) (place : ℕ) → past < place → is_wanted_at (past ∷ wanted) place ≡ is_wanted_at wanted place
past-wanted past wanted place before = ap (λ t. t || is_wanted_at wanted place) (ne_eqb past place (λ same. omega arith))

-- and the first place is one where it is
pub first-wanted : (wanted : List ℕ) (place : ℕ) → is_wanted_at (place ∷ wanted) place ≡ true
first-wanted wanted place = ap (λ t. t || is_wanted_at wanted place) (eq-eqb place place refl)

-- a place before makes no difference
pub past-place : (past : ℕ) (wanted : List ℕ) (place : ℕ) (history : List Change) (statements : List Statement) → past < place
    → replies_after (past ∷ wanted) place history statements ≡ replies_after wanted place history statements
past-place past wanted place history [] before = refl
past-place past wanted place history (statement ∷ statements) before =
    ap (λ t. if t then Memory ∷ replies_after (past ∷ wanted) (suc place) history statements
    else ((effect_of (store_of history) statement).reply ∷ replies_after (past ∷ wanted) (suc place) (history_after history statement) statements))
    (past-wanted past wanted place before)
    ∙ by_test (is_wanted_at wanted place) (effect_of (store_of history) statement).reply
    (past-place past wanted (suc place) history statements (omega arith))
    (past-place past wanted (suc place) (history_after history statement) statements (omega arith))

-- a place that is before all where memory was wanted is none of them
pub not-wanted : (wanted : List ℕ) (place : ℕ) → All (λ p. suc place ≤ p) wanted → is_wanted_at wanted place ≡ false
not-wanted [] place behind = refl
not-wanted (first ∷ wanted) place behind =
    let above : suc place ≤ first = All-head (λ p. suc place ≤ p) first wanted behind in
    ap (λ t. t || is_wanted_at wanted place) (ne_eqb first place (λ same. omega arith))
    ∙ not-wanted wanted place (All-tail (λ p. suc place ≤ p) first wanted behind)

-- the places are not before an earlier one
pub earlier : (place : ℕ) (wanted : List ℕ) → All (λ p. suc place ≤ p) wanted → All (λ p. place ≤ p) wanted
earlier place wanted = All-weaker (λ p. suc place ≤ p) (λ p. place ≤ p) (λ p low. omega arith) wanted

-- nor is the place itself
pub with-place : (place : ℕ) (wanted : List ℕ) → All (λ p. suc place ≤ p) wanted → All (λ p. place ≤ p) (place ∷ wanted)
with-place place wanted behind = All-cons (λ p. place ≤ p) place wanted (omega arith) (earlier place wanted behind)

-- the replies where the first statement has its effect
pub replies-effect : (wanted : List ℕ) (place : ℕ) (history : List Change) (statement : Statement) (statements : List Statement) (replies : List Reply)
    → All (λ p. suc place ≤ p) wanted → replies ≡ replies_after wanted (suc place) (history_after history statement) statements
    → (effect_of (store_of history) statement).reply ∷ replies ≡ replies_after wanted place history (statement ∷ statements)
replies-effect wanted place history statement statements replies behind are =
    ap (λ rest. (effect_of (store_of history) statement).reply ∷ rest) are
    ∙ sym (ap (λ t. if t then Memory ∷ replies_after wanted (suc place) history statements
    else ((effect_of (store_of history) statement).reply ∷ replies_after wanted (suc place) (history_after history statement) statements))
    (not-wanted wanted place behind))

-- and where memory was wanted for it
pub replies-wanted : (wanted : List ℕ) (place : ℕ) (history : List Change) (statement : Statement) (statements : List Statement) (replies : List Reply)
    → replies ≡ replies_after wanted (suc place) history statements
    → Memory ∷ replies ≡ replies_after (place ∷ wanted) place history (statement ∷ statements)
replies-wanted wanted place history statement statements replies are =
    ap (λ rest. Memory ∷ rest) (are ∙ sym (past-place place wanted (suc place) history statements (omega arith)))
    ∙ sym (ap (λ t. if t then Memory ∷ replies_after (place ∷ wanted) (suc place) history statements
    else ((effect_of (store_of history) statement).reply ∷ replies_after (place ∷ wanted) (suc place) (history_after history statement) statements))
    (first-wanted wanted place))
