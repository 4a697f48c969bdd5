-- The replies that may be taken, written one after the other.
use Rattle.script_run.proofs.Words.{◌||◌, ◌∙◌, ◌∷◌, ◌≡◌, [], after_taking, ap, Appends, AppendsFront, OnlyTakesReplies, Bool, Err, false, first_open, Halt, IfSome, is_refusal, IsReplyOf, IsRight, IsRun, IsSome, IsSound, life_of, List, next_ready, None, Ok, Option, Ready, ready_of, refl, Reply, Result, seat_at, slice_get, Some, State, subst, sym, take, text_of, ℕ}
use Rattle.core_state.specs.Sent.{Sent}
use Rattle.script_run.specs.Front.{EndsSo, Plays, PlaysBy, PlaysIn, halt_of}
use Rattle.script_run.proofs.FrontOpenLemmas.{taken-closed}
use Rattle.script_run.proofs.FrontRunLemmas.{run-itself, run-taken, run-then, submits-taken}
use Rattle.script_run.proofs.OnLemmas.{by-err, by-none, by-ok, halts-proper, text-one, within-reply}
use Rattle.script_run.proofs.TakenLemmas.{RowTells, TookFirst, TakesReply, WaitsForOpen, idle-next, took-first}
use Rattle.script_run.proofs.WholeLemmas.{or_false}

-- some replies were taken and written, and these tell whether one of them is a refusal
pub record IsWriting (old now : State) (refused : Bool) (before taken : Option (List ℕ)) : Type 0 where
  pub plays : Plays (Ok refused) old [] now before taken
  pub run : IsRun old now
  pub beside : OnlyTakesReplies old now
  pub closed : first_open old.lives (seat_at old 0) ≡ None → first_open now.lives (seat_at now 0) ≡ None
  pub sound : IsSound now

-- what may be taken is there
pub ready-some : (state : State) (ready : Ready) → Some (ready_of ready) ≡ next_ready state 0 → IsSome (next_ready state 0)
ready-some state ready may = subst IsSome may refl

-- by what code tells of a reply
pub takes-reply : (old new : State) (ready : Ready) (reply : Reply) → IsSound old → Some (ready_of ready) ≡ next_ready old 0 → new ≡ after_taking 0 old
    → IfSome (slice_get (seat_at old 0).pending 0) (λ pending. IsRight old pending.statement pending.awaited (ready_of ready))
    → IsReplyOf ready reply → TakesReply 0 old new ready reply
takes-reply old new ready reply sound may taken right is = record { sound = sound; may = may; taken = taken; right = right; is = is }

-- a reply that is taken leaves all else
pub beside-taken : (old now new : State) → new ≡ after_taking 0 now → OnlyTakesReplies old now → OnlyTakesReplies old new
beside-taken old now new taken beside = record {
  settings = ap (λ state. state.settings) taken ∙ beside.settings;
  entries = ap (λ state. state.entries) taken ∙ beside.entries;
  lives = ap (λ state. state.lives) taken ∙ beside.lives;
  scan = ap (λ state. state.scan) taken ∙ beside.scan;
  numbers = ap (λ state. state.numbers) taken ∙ beside.numbers;
}

-- nothing was taken yet
pub starts-writing : (state : State) (taken : Option (List ℕ)) → IsSound state → IsWriting state state false taken taken
starts-writing state taken sound = record {
  plays = λ due waits. by-none state due taken waits;
  run = run-itself state;
  beside = record { settings = refl; entries = refl; lives = refl; scan = refl; numbers = refl };
  closed = λ none. none;
  sound = sound;
}

-- a reply was taken, and so much of it was written
abbrev took-part : (result : Result Bool Halt) (old new : State) (due : List Sent) (reply : Reply) (written : List ℕ) (taken taken' : Option (List ℕ))
    → TookFirst 0 old new due reply → IsSome (next_ready old 0) → new ≡ after_taking 0 old → Appends taken taken' written
    → ((Left : Type 0) → EndsSo (halt_of result) [] written (reply ∷ []) Left) → PlaysIn (halt_of result) old due [] ⊥ new taken taken'
took-part result old new due reply written taken taken' takes may is took ends = record {
  on = record {
    sent = [];
    said = takes.first ∷ [];
    still = takes.rest;
    replies = reply ∷ [];
    rest = [];
    are = refl;
    goes = takes.goes;
    written = written;
    took = took;
    ends = ends _;
  };
  run = submits-taken old new may is;
  stay = λ query was. ap (λ (state : State). life_of state.lives query) is ∙ was;
  answered = (takes.answered, tt);
}

-- all of it, or not
took-ok : (told : Bool) (old new : State) (due : List Sent) (reply : Reply) (taken taken' : Option (List ℕ)) → TookFirst 0 old new due reply
    → IsSome (next_ready old 0) → new ≡ after_taking 0 old → Appends taken taken' (text_of reply) → told ≡ is_refusal reply → PlaysBy (Ok told) old due [] ⊥ new taken taken'
took-ok told old new due reply taken taken' takes may is took is_told = (
  took-part (Ok told) old new due reply (text_of reply) taken taken' takes may is took (λ Left. (refl, sym (text-one reply))),
  is_told ∙ sym (or_false (is_refusal reply)),
)

took-err : (halt : Halt) (old new : State) (due : List Sent) (reply : Reply) (taken taken' : Option (List ℕ)) → TookFirst 0 old new due reply
    → IsSome (next_ready old 0) → new ≡ after_taking 0 old → AppendsFront taken taken' (text_of reply) → PlaysBy (Err halt) old due [] ⊥ new taken taken'
took-err halt old new due reply taken taken' takes may is took = (
  took-part (Err halt) old new due reply (take took.0 (text_of reply)) taken taken' takes may is took.2
      (λ Left. halts-proper halt (reply ∷ []) (take took.0 (text_of reply)) Left (within-reply reply took.0 took.1)),
  tt,
)

-- one reply more was taken and written
pub writes-more : RowTells → (old now new : State) (refused told : Bool) (before taken taken' : Option (List ℕ)) (ready : Ready) (reply : Reply)
    → IsWriting old now refused before taken → TakesReply 0 now new ready reply → IsSound new → Appends taken taken' (text_of reply)
    → told ≡ is_refusal reply → IsWriting old new (refused || told) before taken'
writes-more tells old now new refused told before taken taken' ready reply writing takes sound wrote is_told =
    let may = ready-some now ready takes.may in record {
      plays = λ due waits.
          let first = writing.plays due waits in
          by-ok refused told old now new due [] [] ⊥ ⊥ ⊥ before taken taken' first
          (took-ok told now new first.0.on.still reply taken taken'
          (took-first tells 0 now new ready reply takes first.0.on.still first.0.on.goes.waits) may takes.taken wrote is_told);
      run = run-then old now new writing.run (run-taken now new may takes.taken);
      beside = beside-taken old now new takes.taken writing.beside;
      closed = λ none. taken-closed 0 now new may takes.taken (writing.closed none);
      sound = sound;
    }

-- a reply was taken, and not all of it was written
pub halts-writing : RowTells → (old now new : State) (refused : Bool) (before taken taken' : Option (List ℕ)) (ready : Ready) (reply : Reply) (halt : Halt)
    → IsWriting old now refused before taken → TakesReply 0 now new ready reply → AppendsFront taken taken' (text_of reply)
    → Plays (Err halt) old [] new before taken'
halts-writing tells old now new refused before taken taken' ready reply halt writing takes wrote due waits =
    let first = writing.plays due waits in
    by-err refused halt old now new due [] [] ⊥ ⊥ ⊥ before taken taken' (λ never. never) first
    (took-err halt now new first.0.on.still reply taken taken'
    (took-first tells 0 now new ready reply takes first.0.on.still first.0.on.goes.waits) (ready-some now ready takes.may) takes.taken wrote)

-- where no query that the front waited for could still be answered, it waits for nothing
pub wrote-idle : WaitsForOpen → (old now new : State) (refused : Bool) (before taken : Option (List ℕ)) → IsWriting old now refused before taken
    → new ≡ now → None ≡ next_ready now 0 → IsSound new → first_open old.lives (seat_at old 0) ≡ None → (seat_at new 0).pending ≡ []
wrote-idle waits old now new refused before taken writing same none sound closed =
    idle-next waits new 0 sound
    (subst (λ state. first_open state.lives (seat_at state 0) ≡ None) (sym same) (writing.closed closed))
    (ap (λ state. next_ready state 0) same ∙ sym none)
