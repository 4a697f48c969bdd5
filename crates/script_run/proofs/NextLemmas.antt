-- Replies to statements, one behind the other, and the places at which memory was wanted for them.
use Rattle.script_run.proofs.Words.{◌++◌, ◌∙◌, ◌∷◌, ◌≡◌, ◌≤◌, [], after_change, All, All-nil, ap, append-nil, AreReplied, Change, effect_of, fold-append, history_after, IsReplied, List, Memory, None, Option, option_map_or, option_to_list, outcome_of, Reading, refl, replies_after, Reply, Some, Statement, statements_of, Store, store_after, store_of, subst, suc, sym, TakesFirst, true, ℕ, ⊎_elim}
use Rattle.query_meaning.specs.Store.{empty_store}
use Rattle.script_run.specs.Front.{LeavesToRead}
use Rattle.script_run.proofs.WantedLemmas.{earlier, replies-effect, replies-wanted, with-place}

-- the first statement is left at the end of the input, too
pub leaves-first : (waits waits' : Reading) (statement : Statement) → TakesFirst waits waits' statement → LeavesToRead waits
leaves-first waits waits' statement first ended none =
    let all = first [] true (λ e. (refl, refl)) in
    absurd (let both : statement ∷ statements_of true (waits'.waiting ++ []) ≡ [] =
    sym all ∙ ap (statements_of true) (append-nil waits.waiting) ∙ none in cc)

-- One behind the other.

-- one statement
pub replied-one : (old new : Store) (statement : Statement) (reply : Reply) → IsReplied old statement reply new
    → AreReplied old (statement ∷ []) (reply ∷ []) new
replied-one old new statement reply is = (new, is, refl)

-- some statements and others
pub replied-then : (old between new : Store) (statements others : List Statement) (replies more : List Reply)
    → AreReplied old statements replies between → AreReplied between others more new
    → AreReplied old (statements ++ others) (replies ++ more) new
replied-then old between new [] others [] more first second = subst (λ store. AreReplied store others more new) first second
replied-then old between new [] others (reply ∷ replies) more first second = absurd first
replied-then old between new (statement ∷ statements) others [] more first second = absurd first
replied-then old between new (statement ∷ statements) others (reply ∷ replies) more first second =
    (first.0, first.1, replied-then first.0 between new statements others replies more first.2 second)

-- The places at which memory was wanted.

-- the tables of a history behind a change, if there is one
store-behind : (history : List Change) (change : Option Change)
    → option_map_or (after_change (store_of history)) change (store_of history) ≡ store_of (history ++ option_to_list change)
store-behind history None = sym (ap store_of (append-nil history))
store-behind history (Some change) = sym (fold-append after_change empty_store history (change ∷ []))

-- replies to statements from a place on, behind a history, where memory was wanted at places not before it
pub record AreAfter (place : ℕ) (history : List Change) (statements : List Statement) (replies : List Reply) : Type 0 where
  pub wanted : List ℕ
  pub behind : All (λ p. place ≤ p) wanted
  pub are : replies ≡ replies_after wanted place history statements

-- the first statement has its effect
after-effect : (place : ℕ) (history : List Change) (statement : Statement) (statements : List Statement) (reply : Reply)
    (replies : List Reply) → reply ≡ (effect_of (store_of history) statement).reply
    → AreAfter (suc place) (history_after history statement) statements replies
    → AreAfter place history (statement ∷ statements) (reply ∷ replies)
after-effect place history statement statements reply replies is rest = record {
  wanted = rest.wanted;
  behind = earlier place rest.wanted rest.behind;
  are = ap (λ first. first ∷ replies) is ∙ replies-effect rest.wanted place history statement statements replies rest.behind rest.are;
}

-- memory was wanted for it
after-wanted : (place : ℕ) (history : List Change) (statement : Statement) (statements : List Statement) (reply : Reply)
    (replies : List Reply) → reply ≡ Memory → AreAfter (suc place) history statements replies
    → AreAfter place history (statement ∷ statements) (reply ∷ replies)
after-wanted place history statement statements reply replies is rest = record {
  wanted = place ∷ rest.wanted;
  behind = with-place place rest.wanted rest.behind;
  are = ap (λ first. first ∷ replies) is ∙ replies-wanted rest.wanted place history statement statements replies rest.are;
}

-- what was replied over the tables of a history
pub replied-after : (place : ℕ) (history : List Change) (old new : Store) (statements : List Statement) (replies : List Reply)
    → old ≡ store_of history → AreReplied old statements replies new → AreAfter place history statements replies
replied-after place history old new [] [] is are = record { wanted = []; behind = All-nil (λ p. place ≤ p); are = refl }
replied-after place history old new [] (reply ∷ replies) is are = absurd are
replied-after place history old new (statement ∷ statements) [] is are = absurd are
replied-after place history old new (statement ∷ statements) (reply ∷ replies) is (between, first, rest) = ⊎_elim
    (λ effect. after-effect place history statement statements reply replies
    (effect.0 ∙ ap (λ store. (effect_of store statement).reply) is)
    (replied-after (suc place) (history_after history statement) between new statements replies
    (effect.1 ∙ ap (λ store. store_after store statement) is ∙ store-behind history (outcome_of (store_of history) statement).change) rest))
    (λ lost. after-wanted place history statement statements reply replies lost.0
    (replied-after (suc place) history between new statements replies (lost.1 ∙ is) rest)) first
