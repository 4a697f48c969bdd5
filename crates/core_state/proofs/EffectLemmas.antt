-- The reply to a statement that a seat takes is that of the statement's effect over the tables of its submission.
use Rattle.core_state.proofs.Words.{◌+◌, ◌<◌, ◌∙◌, ◌∷◌, ◌≡◌, ◌≤◌, [], after_steps, after_submitting, alone, answer_of, ap, arith, awaited_at, awaited_by, Change, changes_of, cond, Done, eq-eqb, eqb, find, FitsTables, Grouping, inl, inr, IsRight, IsSettled, IsSound, length, List, MayStepAll, next_ready, None, Option, option_map, outcome_of, Pending, Query, Ready, refl, seat_at, slice_get, Some, State, Statement, Step, Store, Submit, subst, sym, tables_of, Told, Whole, ℕ}
use Rattle.star_store.specs.Effect.{answer_reply, effect_of, reply_to}
use Rattle.star_store.specs.Outcome as outcome
use Rattle.core_state.specs.Answers.{Gives}
use Rattle.core_state.specs.Events.{after_event}
use Rattle.core_state.proofs.AnswerLemmas.{IgnoresOrder, reply-right}
use Rattle.core_state.proofs.FoundLemmas.{some-at}
use Rattle.core_state.proofs.GivenLemmas.{Settles}
use Rattle.core_state.proofs.LaterLemmas.{AnswersStay, answers-later}
use Rattle.core_state.proofs.SinceLemmas.{told-stays}
use Rattle.core_state.proofs.StepLemmas.{StepsKeep, sound-steps}
use Rattle.core_state.proofs.SubmitLemmas.{Outcomes}

-- what the laws below say
pub record Facts : Type 0 where
  pub ignores : IgnoresOrder
  pub stays : AnswersStay
  pub settles : Settles
  pub outcomes : Outcomes
  pub keep : StepsKeep

-- the first statement that a seat waits for is the one that is found by its number
first-awaited : (state : State) (seat : ℕ) (pending : Pending) → slice_get (seat_at state seat).pending 0 ≡ Some pending
    → awaited_at state seat pending.statement ≡ Some pending.awaited
first-awaited state seat pending is = by_list (seat_at state seat).pending is
  where
    by_list : (waited : List Pending) → slice_get waited 0 ≡ Some pending
        → option_map (λ p. p.awaited) (find (λ p. eqb p.statement pending.statement) waited) ≡ Some pending.awaited
    by_list [] e = absurd (let both : None ≡ Some pending = e in cc)
    by_list (first ∷ rest) e =
        let same : first ≡ pending = cc in
        ap (λ t. option_map (λ p. p.awaited) (cond {A = Option Pending} t (Some first) (find (λ p. eqb p.statement pending.statement) rest)))
        (eq-eqb first.statement pending.statement (ap (λ p. p.statement) same))
        ∙ ap (λ p. Some p.awaited) same

-- a query is asked at the last commit
asked-last : (store : Store) (change : Option Change) (told : Told) (query : Query) (snapshot : ℕ) → FitsTables store change told
    → told ≡ outcome.Accepted query snapshot → snapshot ≡ store.commits
asked-last store None (outcome.Replied reply) query snapshot follows same =
    absurd (let both : outcome.Replied reply ≡ outcome.Accepted query snapshot = same in cc)
asked-last store None (outcome.Accepted other last) query snapshot follows same =
    let at : last ≡ snapshot = cc in
    sym at ∙ follows.0
asked-last store (Some change) (outcome.Replied reply) query snapshot follows same =
    absurd (let both : outcome.Replied reply ≡ outcome.Accepted query snapshot = same in cc)
asked-last store (Some change) (outcome.Accepted other last) query snapshot follows same = absurd follows

-- an answer after the submission and more steps is that of before
answers-since : Facts → (seat : ℕ) (statement : Statement) (state : State) (steps : List Step) (query : Query) (snapshot : ℕ) → IsSound state
    → seat < length state.seats → MayStepAll (after_submitting seat statement state) steps → snapshot ≤ (tables_of state).commits
    → alone (tables_of (after_steps steps (after_submitting seat statement state))) query snapshot ≡ alone (tables_of state) query snapshot
unfolding after_event
answers-since facts seat statement state steps query snapshot sound there may low =
    answers-later facts.stays facts.settles facts.outcomes facts.keep (Done (Submit seat statement) ∷ steps) state query snapshot (there, may) sound low

-- the core is sound after the submission and more steps
sound-since : Facts → (seat : ℕ) (statement : Statement) (state : State) (steps : List Step) → IsSound state → seat < length state.seats
    → MayStepAll (after_submitting seat statement state) steps → IsSound (after_steps steps (after_submitting seat statement state))
unfolding after_event
sound-since facts seat statement state steps sound there may =
    sound-steps facts.keep (Done (Submit seat statement) ∷ steps) state (there, may) sound

pub reply-since : Facts → (seat : ℕ) (statement : Statement) (state : State) (steps : List Step) (pending : Pending) (ready : Ready) → IsSound state
    → seat < length state.seats → MayStepAll (after_submitting seat statement state) steps
    → slice_get (seat_at (after_steps steps (after_submitting seat statement state)) seat).pending 0 ≡ Some pending
    → pending.statement ≡ state.numbers.statement + 1
    → next_ready (after_steps steps (after_submitting seat statement state)) seat ≡ Some ready
    → Gives (after_steps steps (after_submitting seat statement state)) pending.statement (effect_of (tables_of state) statement).reply ready
reply-since facts seat statement state steps pending ready sound there may is number next =
    by_told (outcome_of (tables_of state) statement).told refl ready
    (subst (λ awaited. IsRight now pending.statement awaited ready) told (reply-right facts.ignores now seat pending ready sound_now is next))
  where
    now : State
    now = after_steps steps (after_submitting seat statement state)

    sound_now : IsSound now
    sound_now = sound-since facts seat statement state steps sound there may

    told : pending.awaited ≡ awaited_by (outcome_of (tables_of state) statement).told
    told = some-at (λ awaited. awaited ≡ awaited_by (outcome_of (tables_of state) statement).told)
        (awaited_at now seat (state.numbers.statement + 1)) pending.awaited
        (subst (λ n. awaited_at now seat n ≡ Some pending.awaited) number (first-awaited now seat pending is))
        (told-stays facts.keep seat statement state steps sound there may)

    settled : IsSettled (tables_of state)
    settled = facts.settles (changes_of state.entries) sound.store

    by_told : (what : Told) → (outcome_of (tables_of state) statement).told ≡ what → (taken : Ready) → IsRight now pending.statement (awaited_by what) taken
        → Gives now pending.statement (reply_to (tables_of state) what) taken
    by_told (outcome.Replied reply) same taken right =
        subst (Gives now pending.statement reply) (sym right) (inl refl)
    by_told (outcome.Accepted query snapshot) same (Whole reply) right = inr right
    by_told (outcome.Accepted query snapshot) same (Grouping at groups) right =
        let last : snapshot ≡ (tables_of state).commits =
        asked-last (tables_of state) (outcome_of (tables_of state) statement).change (outcome_of (tables_of state) statement).told query snapshot
        (facts.outcomes (tables_of state) statement settled) same in
        let all = right.2 in (
          query,
          all.rows,
          all.of_rows,
          ap (answer_reply snapshot) (sym (all.answer ∙ answers-since facts seat statement state steps query snapshot sound there may (omega arith)))
              ∙ ap (λ s. answer_reply s (answer_of query all.rows)) (sym right.0),
        )
