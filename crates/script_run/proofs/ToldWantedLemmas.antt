-- The history and the queries of statements, where memory was wanted for the first of them, and where it has its effect.
use Rattle.script_run.proofs.Words.{◌<◌, ◌∙◌, ◌∷◌, ◌≡◌, ◌≤◌, [], Accepted, All, ap, arith, BeginAnswered, Bool, Change, effect_of, false, history_after, if◌then◌else◌, inl, inr, is_wanted_at, List, Lives, MayBegin, Memory, outcome_of, Query, refl, replies_after, Reply, Statement, store_of, subst, suc, sym, Told, true, ℕ, ⊎_elim}
use Rattle.star_store.specs.Outcome as outcome
use Rattle.script_run.specs.Told.{AreQueriesOf, BeginWith, ByWanted, history_from}
use Rattle.script_run.proofs.WantedLemmas.{earlier, first-wanted, not-wanted, past-wanted, replies-effect, replies-wanted, with-place}

-- The history.

-- the same by whether memory was wanted at the first place
by_test : (test : Bool) {left left' right right' : List Change} → left ≡ left' → right ≡ right'
    → (if test then left else right) ≡ (if test then left' else right')
by_test true e f = e
by_test false e f = f

-- a place before makes no difference
past-history : (past : ℕ) (wanted : List ℕ) (place : ℕ) (history : List Change) (statements : List Statement) → past < place
    → history_from (past ∷ wanted) place history statements ≡ history_from wanted place history statements
past-history past wanted place history [] before = refl
past-history past wanted place history (statement ∷ statements) before =
    ap (λ t. if t then history_from (past ∷ wanted) (suc place) history statements
    else history_from (past ∷ wanted) (suc place) (history_after history statement) statements) (past-wanted past wanted place before)
    ∙ by_test (is_wanted_at wanted place) (past-history past wanted (suc place) history statements (omega arith))
    (past-history past wanted (suc place) (history_after history statement) statements (omega arith))

-- the first statement has its effect
history-effect : (wanted : List ℕ) (place : ℕ) (history : List Change) (statement : Statement) (statements : List Statement)
    → All (λ p. suc place ≤ p) wanted
    → history_from wanted place history (statement ∷ statements) ≡ history_from wanted (suc place) (history_after history statement) statements
history-effect wanted place history statement statements behind =
    ap (λ t. if t then history_from wanted (suc place) history statements
    else history_from wanted (suc place) (history_after history statement) statements) (not-wanted wanted place behind)

-- memory was wanted for it
history-wanted : (wanted : List ℕ) (place : ℕ) (history : List Change) (statement : Statement) (statements : List Statement)
    → history_from (place ∷ wanted) place history (statement ∷ statements) ≡ history_from wanted (suc place) history statements
history-wanted wanted place history statement statements =
    ap (λ t. if t then history_from (place ∷ wanted) (suc place) history statements
    else history_from (place ∷ wanted) (suc place) (history_after history statement) statements) (first-wanted wanted place)
    ∙ past-history place wanted (suc place) history statements (omega arith)

-- The queries.

-- the others may be less
begin-weaker : (query : Query) (snapshot : ℕ) (IsNumber : ℕ → Type 0) (A B : List Accepted → Type 0) → ((rest : List Accepted) → A rest → B rest)
    → (accepted : List Accepted) → BeginWith query snapshot IsNumber A accepted → BeginWith query snapshot IsNumber B accepted
begin-weaker query snapshot IsNumber A B weaker [] is = absurd is
begin-weaker query snapshot IsNumber A B weaker (first ∷ accepted) is = (is.0, is.1, is.2, weaker accepted is.3)

answered-weaker : (lives : Lives) (told : Told) (A B : List Accepted → Type 0) → ((rest : List Accepted) → A rest → B rest)
    → (accepted : List Accepted) → BeginAnswered lives told A accepted → BeginAnswered lives told B accepted
answered-weaker lives (outcome.Replied reply) A B weaker accepted is = weaker accepted is
answered-weaker lives (outcome.Accepted query snapshot) A B weaker accepted is = begin-weaker query snapshot _ A B weaker accepted is

may-weaker : (told : Told) (A B : List Accepted → Type 0) → ((rest : List Accepted) → A rest → B rest)
    → (accepted : List Accepted) → MayBegin told A accepted → MayBegin told B accepted
may-weaker (outcome.Replied reply) A B weaker accepted is = weaker accepted is
may-weaker (outcome.Accepted query snapshot) A B weaker accepted is =
    ⊎_elim (λ none. inl (weaker accepted none)) (λ some. inr (begin-weaker query snapshot _ A B weaker accepted some)) is

wanted-weaker : (test : Bool) {A B C D : Type 0} → (A → C) → (B → D) → ByWanted test A B → ByWanted test C D
wanted-weaker true f g is = f is
wanted-weaker false f g is = g is

-- a place before makes no difference
past-queries : (lives : Lives) (past : ℕ) (wanted : List ℕ) (place : ℕ) (history : List Change) (statements : List Statement) (accepted : List Accepted)
    → past < place → AreQueriesOf lives wanted place history statements accepted → AreQueriesOf lives (past ∷ wanted) place history statements accepted
past-queries lives past wanted place history [] accepted before are = are
past-queries lives past wanted place history (statement ∷ statements) accepted before are =
    let told = (outcome_of (store_of history) statement).told in
    subst (λ t. ByWanted t
    (MayBegin told (λ rest. AreQueriesOf lives (past ∷ wanted) (suc place) history statements rest) accepted)
    (BeginAnswered lives told (λ rest. AreQueriesOf lives (past ∷ wanted) (suc place) (history_after history statement) statements rest) accepted))
    (sym (past-wanted past wanted place before))
    (wanted-weaker (is_wanted_at wanted place)
    (may-weaker told (λ rest. AreQueriesOf lives wanted (suc place) history statements rest)
    (λ rest. AreQueriesOf lives (past ∷ wanted) (suc place) history statements rest)
    (λ rest others. past-queries lives past wanted (suc place) history statements rest (omega arith) others) accepted)
    (answered-weaker lives told (λ rest. AreQueriesOf lives wanted (suc place) (history_after history statement) statements rest)
    (λ rest. AreQueriesOf lives (past ∷ wanted) (suc place) (history_after history statement) statements rest)
    (λ rest others. past-queries lives past wanted (suc place) (history_after history statement) statements rest (omega arith) others) accepted)
    are)

-- Both, with the replies.

-- the replies, the last history and the queries are those of statements from a place on, where memory was wanted at places not before it
pub record AreTold (lives : Lives) (place : ℕ) (history : List Change) (statements : List Statement) (replies : List Reply)
    (after : List Change) (accepted : List Accepted) : Type 0 where
  pub wanted : List ℕ
  pub behind : All (λ p. place ≤ p) wanted
  pub replied : replies ≡ replies_after wanted place history statements
  pub ended : after ≡ history_from wanted place history statements
  pub queries : AreQueriesOf lives wanted place history statements accepted

-- the first statement has its effect
pub told-effect : (lives : Lives) (place : ℕ) (history : List Change) (statement : Statement) (statements : List Statement)
    (replies : List Reply) (after : List Change) (rest accepted : List Accepted)
    → AreTold lives (suc place) (history_after history statement) statements replies after rest
    → ((A : List Accepted → Type 0) → A rest → BeginAnswered lives (outcome_of (store_of history) statement).told A accepted)
    → AreTold lives place history (statement ∷ statements) ((effect_of (store_of history) statement).reply ∷ replies) after accepted
told-effect lives place history statement statements replies after rest accepted from begins =
    let told = (outcome_of (store_of history) statement).told in record {
      wanted = from.wanted;
      behind = earlier place from.wanted from.behind;
      replied = replies-effect from.wanted place history statement statements replies from.behind from.replied;
      ended = from.ended ∙ sym (history-effect from.wanted place history statement statements from.behind);
      queries = subst (λ t. ByWanted t
          (MayBegin told (λ others. AreQueriesOf lives from.wanted (suc place) history statements others) accepted)
          (BeginAnswered lives told (λ others. AreQueriesOf lives from.wanted (suc place) (history_after history statement) statements others) accepted))
          (sym (not-wanted from.wanted place from.behind))
          (begins (λ others. AreQueriesOf lives from.wanted (suc place) (history_after history statement) statements others) from.queries);
    }

-- memory was wanted for it
pub told-wanted : (lives : Lives) (place : ℕ) (history : List Change) (statement : Statement) (statements : List Statement)
    (replies : List Reply) (after : List Change) (rest accepted : List Accepted)
    → AreTold lives (suc place) history statements replies after rest
    → ((A : List Accepted → Type 0) → A rest → MayBegin (outcome_of (store_of history) statement).told A accepted)
    → AreTold lives place history (statement ∷ statements) (Memory ∷ replies) after accepted
told-wanted lives place history statement statements replies after rest accepted from begins =
    let told = (outcome_of (store_of history) statement).told in record {
      wanted = place ∷ from.wanted;
      behind = with-place place from.wanted from.behind;
      replied = replies-wanted from.wanted place history statement statements replies from.replied;
      ended = from.ended ∙ sym (history-wanted from.wanted place history statement statements);
      queries = subst (λ t. ByWanted t
          (MayBegin told (λ others. AreQueriesOf lives (place ∷ from.wanted) (suc place) history statements others) accepted)
          (BeginAnswered lives told
          (λ others. AreQueriesOf lives (place ∷ from.wanted) (suc place) (history_after history statement) statements others) accepted))
          (sym (first-wanted from.wanted place))
          (begins (λ others. AreQueriesOf lives (place ∷ from.wanted) (suc place) history statements others)
          (past-queries lives place from.wanted (suc place) history statements rest (omega arith) from.queries));
    }
