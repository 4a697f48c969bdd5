-- A statement that the front gives to a core, or for which no memory was left, and the replies that are written then.
use Rattle.script_run.proofs.Words.{◌++◌, ◌+◌, ◌<◌, ◌||◌, ◌∙◌, ◌∷◌, ◌≡◌, ◌≢◌, ◌≤◌, ◌⊎◌, [], after_submitting, Answered, ap, append_assoc, Appends, Appends-nil, AppendsFront, aside-outcome, Bool, CountsOne, Err, false, Finishes, FrontParts, GivesStatement, GoesRound, Halt, IfOk, inl, inr, is_refusal, is_wait, IsSound, IsTrue, length, List, list_any, Memory, NoMemory, None, Ok, on_ok_weaker, OnOk, Option, outcome_of, queries_awaited, refl, Result, seat_at, Some, State, state_of, Statement, Submit, subst, sym, tables_of, take, text_of, Took, true, ℕ, ⊎_elim}
use Rattle.std.specs.Prelude.{OnErr}
use Rattle.std.proofs.lemmas.List.Folds.{list_any-append}
use Rattle.core_state.specs.Events.{after_event}
use Rattle.core_state.specs.Fronts.{Goes, IsDue, SubmitsRow}
use Rattle.core_state.specs.Rows.{sight_of}
use Rattle.core_state.specs.Sent.{Given, Lost, Sent, pendings_of, statements_in}
use Rattle.core_state.proofs.FrontLemmas.{goes-lost, goes-passes, goes-submits}
use Rattle.core_state.proofs.RowLemmas.{submits-row}
use Rattle.script_run.specs.Answered.{StayAnswered}
use Rattle.script_run.specs.Counted.{CameToEnd}
use Rattle.script_run.specs.Front.{EndsSo, Plays, PlaysBy, PlaysCounted, PlaysIn, PlaysOn}
use Rattle.script_run.proofs.FrontRunLemmas.{idle-submitted, submits-none, submits-one}
use Rattle.script_run.proofs.LapLemmas.{laps-lost, laps-quiet, laps-round, laps-then, settles-plays, waits-fill}
use Rattle.script_run.proofs.LapSubmitLemmas.{counts-submitted}
use Rattle.script_run.proofs.OnLemmas.{by-err, by-ok, by-passes, halts-left, halts-proper, halts-weaker, idle-still, in-err, in-ok, text-one, within-reply}

-- No memory was left.

-- for letting queries come to their end, where something is waited for
pub plays-due : (old new : State) (taken : Option (List ℕ)) → (seat_at old 0).pending ≢ [] → Finishes old new
    → Plays (Err NoMemory) old [] new taken taken
plays-due old new taken some finishes due waits = (
  record {
    on = record {
      sent = [];
      said = [];
      still = due;
      replies = [];
      rest = [];
      are = refl;
      goes = goes-passes 0 (sight_of old 0) (sight_of new 0) due waits refl finishes.passes;
      written = [];
      took = Appends-nil taken;
      ends = halts-left ((due ≢ []) ⊎ (([] ≢ []) ⊎ ⊥)) (inl waiting);
    };
    run = finishes.run;
    stay = finishes.stay;
    answered = tt;
  },
  tt,
)
  where
    waiting : due ≢ []
    waiting none = some (waits.pending ∙ ap (pendings_of old.entries) none)

-- queries came to their end, and then replies were written
pub plays-behind : (result : Result Bool Halt) (old mid new : State) (taken taken' : Option (List ℕ)) → Finishes old mid
    → Plays result mid [] new taken taken' → Plays result old [] new taken taken'
plays-behind (Ok refused) old mid new taken taken' finishes plays due waits =
    let first = by-passes old mid due taken waits finishes.passes finishes.run finishes.stay in
    by-ok false refused old mid new due [] [] ⊥ ⊥ ⊥ taken taken taken' first (plays first.0.on.still first.0.on.goes.waits)
plays-behind (Err halt) old mid new taken taken' finishes plays due waits =
    let first = by-passes old mid due taken waits finishes.passes finishes.run finishes.stay in
    by-err false halt old mid new due [] [] ⊥ ⊥ ⊥ taken taken taken' (λ never. never) first (plays first.0.on.still first.0.on.goes.waits)

-- what was not sent is not nothing
rest-some : (rest : List Statement) (statement : Statement) → (rest ++ statement ∷ []) ≢ []
rest-some [] statement same = absurd (let both : statement ∷ [] ≡ [] = same in cc)
rest-some (first ∷ rest) statement same = absurd (let both : first ∷ (rest ++ statement ∷ []) ≡ [] = same in cc)

-- the replies halt before a statement is sent
pub plays-before : (halt : Halt) (statement : Statement) (old new : State) (taken taken' : Option (List ℕ)) → Plays (Err halt) old [] new taken taken'
    → PlaysCounted (Err halt) old (statement ∷ []) new taken taken'
plays-before halt statement old new taken taken' plays due waits = (
  (
    record {
      on = record {
        sent = on.sent;
        said = on.said;
        still = on.still;
        replies = on.replies;
        rest = on.rest ++ statement ∷ [];
        are = ap (λ list. list ++ statement ∷ []) on.are ∙ append_assoc (statements_in on.sent) on.rest (statement ∷ []);
        goes = on.goes;
        written = on.written;
        took = on.took;
        ends = halts-weaker halt on.replies on.written ((on.still ≢ []) ⊎ ((on.rest ≢ []) ⊎ ⊥))
            ((on.still ≢ []) ⊎ (((on.rest ++ statement ∷ []) ≢ []) ⊎ ⊥)) (λ left. inr (inl (rest-some on.rest statement))) on.ends;
      };
      run = (plays due waits).0.run;
      stay = (plays due waits).0.stay;
      answered = (plays due waits).0.answered;
    },
    tt,
  ),
  tt,
)
  where
    on : PlaysOn (Some halt) 0 (sight_of old 0) due [] ⊥ (sight_of new 0) taken taken'
    on = (plays due waits).0.on

or_true : (a : Bool) → true ≡ (a || true)
or_true true = refl
or_true false = refl

-- a statement for which no memory was left, where nothing is waited for: `memory` was written, or not all of it
lost-goes : (statement : Statement) (state : State) (due : List Sent) → IsDue 0 (sight_of state 0) due → due ≡ []
    → Goes 0 (sight_of state 0) due (sight_of state 0) [] (Lost statement ∷ []) (Lost statement ∷ []) (Memory ∷ [])
lost-goes statement state due waits none =
    subst (λ list. Goes 0 (sight_of state 0) list (sight_of state 0) [] (Lost statement ∷ []) (Lost statement ∷ []) (Memory ∷ [])) (sym none)
    (goes-lost 0 (sight_of state 0) statement (subst (IsDue 0 (sight_of state 0)) none waits))

abbrev lost-in : (halted : Option Halt) (statement : Statement) (state : State) (due : List Sent) (written : List ℕ) (taken taken' : Option (List ℕ))
    → IsDue 0 (sight_of state 0) due → due ≡ [] → Appends taken taken' written
    → EndsSo halted [] written (Memory ∷ []) ((◌≢◌ {A = List Sent} [] []) ⊎ ((◌≢◌ {A = List Statement} [] []) ⊎ ⊥)) → PlaysIn halted state due (statement ∷ []) ⊥ state taken taken'
lost-in halted statement state due written taken taken' waits none took ends = record {
  on = record {
    sent = Lost statement ∷ [];
    said = Lost statement ∷ [];
    still = [];
    replies = Memory ∷ [];
    rest = [];
    are = refl;
    goes = lost-goes statement state due waits none;
    written = written;
    took = took;
    ends = ends;
  };
  run = submits-none state;
  stay = λ query was. was;
  answered = (inl refl, tt);
}

-- all was written that was waited for, and then `memory`, or not all of it
pub plays-lost : (result : Result Bool Halt) (others : Bool) (statement : Statement) (old new : State) (before taken taken' : Option (List ℕ))
    → 0 < old.settings.slots → GoesRound old new → Plays (Ok others) old [] new before taken → (seat_at new 0).pending ≡ []
    → IfOk result (λ refused. refused ≡ is_refusal Memory)
    → OnOk result (Appends taken taken' (text_of Memory)) → OnErr result (AppendsFront taken taken' (text_of Memory))
    → PlaysCounted result old (statement ∷ []) new before taken'
plays-lost (Ok refused) others statement old new before taken taken' some round plays idle is_refused wrote halted due waits =
    let first = plays due waits in
    let none = idle-still new first.0.on.still first.0.on.goes.waits idle in
    let second : PlaysIn None new first.0.on.still (statement ∷ []) ⊥ new taken taken' =
    lost-in None statement new first.0.on.still (text_of Memory) taken taken' first.0.on.goes.waits none wrote (refl, sym (text-one Memory)) in (
      (
        in-ok old new new due [] (statement ∷ []) ⊥ ⊥ ⊥ before taken taken' first.0 second,
        is_refused ∙ or_true (list_any is_refusal first.0.on.replies) ∙ sym (list_any-append is_refusal first.0.on.replies (Memory ∷ [])),
      ),
      laps-lost old new first.0.on.replies some round,
    )
plays-lost (Err halt) others statement old new before taken taken' some round plays idle is_refused wrote halted due waits =
    let first = plays due waits in
    let none = idle-still new first.0.on.still first.0.on.goes.waits idle in
    let second : PlaysIn (Some halt) new first.0.on.still (statement ∷ []) ⊥ new taken taken' =
    lost-in (Some halt) statement new first.0.on.still (take halted.0 (text_of Memory)) taken taken' first.0.on.goes.waits none halted.2
    (halts-proper halt (Memory ∷ []) (take halted.0 (text_of Memory)) _ (within-reply Memory halted.0 halted.1)) in
    ((in-err halt old new new due [] (statement ∷ []) ⊥ ⊥ ⊥ before taken taken' (λ never. never) first.0 second, tt), tt)

-- A statement was submitted.

-- so it is where the core took it
pub took-given : (statement : Statement) (old new : State) → IsSound old → Took (Submit 0 statement) old new → GivesStatement statement old new
unfolding after_event
took-given statement old new sound took =
    let is : new ≡ after_submitting 0 statement old = ⊎_elim (λ done. done) (λ spoilt. absurd spoilt) took.after in
    record {
      submits = subst (λ state. SubmitsRow 0 (old.numbers.statement + 1) statement (sight_of old 0) (sight_of state 0)) (sym is)
          (submits-row old 0 statement took.enabled);
      stay = subst (λ (state : State). StayAnswered old.lives state.lives) (sym is)
          (λ query was. (aside-outcome 0 (outcome_of (tables_of old) statement) old).over query Answered refl was);
      run = submits-one statement old new took.enabled is;
      idle = idle-submitted statement old new is;
      counts = subst (CountsOne statement old) (sym is) (counts-submitted statement old sound took.enabled);
    }

-- what holds whatever the result is holds of a failure
pub on-err : {A E Q : Type 0} (result : Result A E) → Q → OnErr result Q
on-err (Ok x) is = tt
on-err (Err e) is = is

-- and of success
pub on-ok : {A E Q : Type 0} (result : Result A E) → Q → OnOk result Q
on-ok (Ok x) is = is
on-ok (Err e) is = tt

pub on-ok-both : {A E P Q R : Type 0} (result : Result A E) → (P → Q → R) → OnOk result P → OnOk result Q → OnOk result R
on-ok-both (Ok x) both first second = both first second
on-ok-both (Err e) both first second = tt

-- what was sent is waited for
abbrev given-part : (statement : Statement) (old new : State) (due : List Sent) (taken : Option (List ℕ)) → IsDue 0 (sight_of old 0) due
    → GivesStatement statement old new → PlaysBy (Ok false) old due (statement ∷ []) ⊥ new taken taken
given-part statement old new due taken waits gives = (
  record {
    on = record {
      sent = Given (old.numbers.statement + 1) (length old.entries) statement ∷ [];
      said = [];
      still = due ++ Given (old.numbers.statement + 1) (length old.entries) statement ∷ [];
      replies = [];
      rest = [];
      are = refl;
      goes = goes-submits 0 (sight_of old 0) (sight_of new 0) due (old.numbers.statement + 1) statement waits refl gives.submits;
      written = [];
      took = Appends-nil taken;
      ends = (refl, refl);
    };
    run = gives.run;
    stay = gives.stay;
    answered = tt;
  },
  refl,
)

-- before any reply
pub plays-quiet : (statement : Statement) (old new : State) (taken : Option (List ℕ)) → GivesStatement statement old new
    → PlaysCounted (Ok false) old (statement ∷ []) new taken taken
plays-quiet statement old new taken gives due waits =
    (given-part statement old new due taken waits gives, laps-quiet statement old new gives.counts)

-- and the queries came to their end, since it waits for some, none is open, or they are as many as there are slots
pub plays-given : (result : Result Bool Halt) (statement : Statement) (old mid new : State) (taken taken' : Option (List ℕ)) → 0 < mid.settings.slots
    → GivesStatement statement old mid
    → (IsTrue (is_wait statement) × (0 < queries_awaited old)) ⊎ ((queries_awaited mid ≡ 0) ⊎ (mid.settings.slots ≤ queries_awaited mid))
    → Plays result mid [] new taken taken' → OnOk result (GoesRound mid new) → OnOk result ((seat_at new 0).pending ≡ [])
    → PlaysCounted result old (statement ∷ []) new taken taken'
plays-given (Ok refused) statement old mid new taken taken' some gives worth plays round idle due waits =
    let first : PlaysBy (Ok false) old due (statement ∷ []) ⊥ mid taken taken = given-part statement old mid due taken waits gives in
    let second : PlaysBy (Ok refused) mid first.0.on.still [] ⊥ new taken taken' = plays first.0.on.still first.0.on.goes.waits in
    let settled = settles-plays mid new first.0.on.still ⊥ taken taken' first.0.on.goes.waits second.0 idle in
    let grows = second.0.on.goes.seen ∙ ap (λ list. list ++ second.0.on.goes.since) first.0.on.goes.seen
    ∙ append_assoc old.entries first.0.on.goes.since second.0.on.goes.since in (
      by-ok false refused old mid new due (statement ∷ []) [] ⊥ ⊥ ⊥ taken taken taken' first second,
      laps-then old mid new [] second.0.on.replies (laps-quiet statement old mid gives.counts)
          (laps-round mid new first.0.on.still second.0.on.replies some round settled
          (⊎_elim
          (λ is. inr (inr (waits-fill statement (old.numbers.statement + 1) (length old.entries) old mid new due
          (first.0.on.goes.since ++ second.0.on.goes.since) second.0.on.replies some is.0 is.1 waits grows settled)))
          (⊎_elim (λ none. inl none) (λ many. inr (inl many))) worth)),
    )
plays-given (Err halt) statement old mid new taken taken' some gives worth plays round idle due waits =
    let first : PlaysBy (Ok false) old due (statement ∷ []) ⊥ mid taken taken = given-part statement old mid due taken waits gives in
    (by-err false halt old mid new due (statement ∷ []) [] ⊥ ⊥ ⊥ taken taken taken' (λ never. never) first (plays first.0.on.still first.0.on.goes.waits), tt)

-- what came to its end went round once at most
pub ended-round : (result : Result Bool Halt) (old new : FrontParts) → OnOk result (CameToEnd old new)
    → OnOk result (GoesRound (state_of old.core) (state_of new.core))
ended-round result old new = on_ok_weaker result (λ ends. ends.round)

-- and waits for nothing
pub ended-all : (result : Result Bool Halt) (old new : FrontParts) → OnOk result (CameToEnd old new)
    → OnOk result ((seat_at (state_of new.core) 0).pending ≡ [])
ended-all result old new = on_ok_weaker result (λ ends. ends.all)
