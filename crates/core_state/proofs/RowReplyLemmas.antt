-- A row tells the reply: whatever came meanwhile, what a seat may take is right for what it submitted.
use Rattle.core_state.proofs.Words.{◌++◌, ◌∙◌, ◌≡◌, ◌≤◌, [], ◌∷◌, AcceptsAll, Accepts, after_change, alone, ap, arith, Change, changes_of, empty_store, Entry, FitsTables, fold, fold-append, inl, inr, IsSettled, IsSound, List, map-append, None, Option, outcome_of, Query, refl, Some, State, Statement, store_of, Store, subst, sym, tables_by, Told, ℕ}
use Rattle.core_state.specs.Answers.{IsRight, IsTakenAs}
use Rattle.core_state.specs.Sent.{AnswersTold, IsReplyBehind, pending_behind, told_behind}
use Rattle.core_state.specs.State.{Asked, Pending}
use Rattle.core_state.specs.Submitting.{Grouping, Ready, Whole, awaited_by, next_ready, seat_at}
use Rattle.core_state.specs.Rows.{row_of}
use Rattle.reply_text.specs.declared.reply.Reply.{Reply}
use Rattle.star_plan.specs.Answer.{answer_of}
use Rattle.star_store.specs.Effect.{answer_reply}
use Rattle.star_store.specs.Outcome as outcome
use Rattle.std.specs.Prelude.{slice_get}
use Rattle.core_state.proofs.GivenLemmas.{Settles}
use Rattle.core_state.proofs.HandTablesLemmas.{accepts-rest}
use Rattle.core_state.proofs.LaterLemmas.{AnswersStay, one-later}
use Rattle.core_state.proofs.SubmitLemmas.{Outcomes}

-- tables that took a change are settled where they were
abbrev pub SettlesNext : Type 0
SettlesNext = (store : Store) (change : Change) → IsSettled store → Accepts store change → IsSettled (after_change store change)

-- what a seat may take is right
abbrev pub RepliesRight : Type 0
RepliesRight = (state : State) (seat : ℕ) (pending : Pending) (ready : Ready) → IsSound state
    → slice_get (seat_at state seat).pending 0 ≡ Some pending → next_ready state seat ≡ Some ready
    → IsRight state pending.statement pending.awaited ready

-- of changes that were taken one after the other the first were
accepts-front : (store : Store) (history rest : List Change) → AcceptsAll store (history ++ rest) → AcceptsAll store history
accepts-front store [] rest all = tt
accepts-front store (change ∷ history) rest all = (all.0, accepts-front (after_change store change) history rest all.1)

-- changes that come behind a snapshot change no answer
alone-behind : AnswersStay → SettlesNext → (store : Store) (changes : List Change) (query : Query) (snapshot : ℕ) → IsSettled store
    → AcceptsAll store changes → snapshot ≤ store.commits → alone (fold after_change store changes) query snapshot ≡ alone store query snapshot
alone-behind stays next store [] query snapshot settled all low = refl
alone-behind stays next store (change ∷ changes) query snapshot settled all low =
    let one = one-later stays query snapshot store (after_change store change) settled low (inr (change, refl, all.0)) in
    alone-behind stays next (after_change store change) changes query snapshot (next store change settled all.0) all.1 one.0 ∙ one.1

-- the entries before, and the answer of a query that was accepted behind them
module _ (stays : AnswersStay) (settles : Settles) (next : SettlesNext) (outcomes : Outcomes) (before since : List Entry)
    (all : AcceptsAll empty_store (changes_of (before ++ since))) where
  split : changes_of (before ++ since) ≡ changes_of before ++ changes_of since
  split = map-append (λ (e : Entry). e.change) before since

  all_taken : AcceptsAll empty_store (changes_of before ++ changes_of since)
  all_taken = subst (AcceptsAll empty_store) split all

  settled : IsSettled (tables_by before)
  settled = settles (changes_of before) (accepts-front empty_store (changes_of before) (changes_of since) all_taken)

  -- a query asks for the last commit behind the entries before it
  snapshot-low : (statement : Statement) (query : Query) (snapshot : ℕ) → told_behind before statement ≡ outcome.Accepted query snapshot
      → snapshot ≤ (tables_by before).commits
  snapshot-low statement query snapshot told =
      by_change (outcome_of (tables_by before) statement).change
      (subst (FitsTables (tables_by before) (outcome_of (tables_by before) statement).change) told (outcomes (tables_by before) statement settled))
    where
      by_change : (change : Option Change) → FitsTables (tables_by before) change (outcome.Accepted query snapshot) → snapshot ≤ (tables_by before).commits
      by_change None fits = let same = fits.0 in omega arith
      by_change (Some change) fits = absurd fits

  alone-since : (query : Query) (snapshot : ℕ) → snapshot ≤ (tables_by before).commits
      → alone (tables_by (before ++ since)) query snapshot ≡ alone (tables_by before) query snapshot
  alone-since query snapshot low =
      ap (λ store. alone store query snapshot) (ap store_of split ∙ fold-append after_change empty_store (changes_of before) (changes_of since))
      ∙ alone-behind stays next (tables_by before) (changes_of since) query snapshot settled
      (accepts-rest empty_store (changes_of before) (changes_of since) all_taken) low

pub row-tells : AnswersStay → Settles → SettlesNext → Outcomes → RepliesRight → (state : State) (seat number : ℕ) (before since : List Entry)
    (statement : Statement) (ready : Ready) (reply : Reply) → IsSound state → state.entries ≡ before ++ since
    → slice_get (row_of state seat).pending 0 ≡ Some (pending_behind number before statement) → next_ready state seat ≡ Some ready
    → IsTakenAs ready reply → IsReplyBehind before statement reply
row-tells stays settles next outcomes rights state seat number before since statement ready reply sound entries first may taken =
    by_told (told_behind before statement) refl (rights state seat (pending_behind number before statement) ready sound first may)
  where
    all : AcceptsAll empty_store (changes_of (before ++ since))
    all = subst (λ es. AcceptsAll empty_store (changes_of es)) entries sound.store

    by_ready : (query : Query) (snapshot : ℕ) → snapshot ≤ (tables_by before).commits → (given : Ready) → IsTakenAs given reply
        → IsRight state number (Asked query snapshot) given → AnswersTold (tables_by before) (outcome.Accepted query snapshot) reply
    by_ready query snapshot low (Whole whole) is right = inr (is ∙ right.0)
    by_ready query snapshot low (Grouping at groups) (inl none) right = inr none
    by_ready query snapshot low (Grouping at groups) (inr answers) right =
        let same = alone-since stays settles next outcomes before since all query snapshot low in
        inl (answers query right.2.rows right.2.of_rows ∙ ap (λ n. answer_reply n (answer_of query right.2.rows)) right.0
        ∙ ap (answer_reply snapshot) (right.2.answer ∙ ap (λ es. alone (tables_by es) query snapshot) entries ∙ same))

    by_told : (told : Told) → told_behind before statement ≡ told → IsRight state number (awaited_by (told_behind before statement)) ready
        → IsReplyBehind before statement reply
    by_told (outcome.Replied wanted) is right =
        let whole : ready ≡ Whole wanted = subst (λ t. IsRight state number (awaited_by t) ready) is right in
        subst (λ t. AnswersTold (tables_by before) t reply) (sym is) (subst (λ r. IsTakenAs r reply) whole taken)
    by_told (outcome.Accepted query snapshot) is right =
        subst (λ t. AnswersTold (tables_by before) t reply) (sym is)
        (by_ready query snapshot (snapshot-low stays settles next outcomes before since all statement query snapshot is) ready taken
        (subst (λ t. IsRight state number (awaited_by t) ready) is right))
