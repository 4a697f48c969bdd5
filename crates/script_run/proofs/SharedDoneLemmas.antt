-- How a run over a core ends whose replies were all written, and one whose reading ended before.
use Rattle.script_run.proofs.Words.{◌*◌, ◌++◌, ◌+◌, ◌<◌, ◌||◌, ◌∙◌, ◌≡◌, ◌≤◌, [], AnswersBy, ap, append-nil, Appends, arith, Bool, changes_of, Consumes, Consumes-trans, empty_core, end_of_all, Err, false, GoesRound, Halt, HasEnded, HasNoStatement, IfSome, is_refusal, laps_of, length, length-append, List, list_any, MayCome, None, Ok, OnOk, Option, Reading, refl, replies_of, Reply, Result, RunSettings, SCRIPT_LIMIT, seat_at, State, Statement, statements_of, StaysFed, subst, sym, text_of_all, true, versions_in, within_limit, ℕ}
use Rattle.star_io.specs.declared.run_end.RunEnd.{RunEnd}
use Rattle.star_io.specs.declared.run_end.RunEnd.TheVariants as end
use Rattle.star_io.specs.Link.{ReadingSide, WritingSide}
use Rattle.core_state.specs.Rows.{SeatRow, Sight, empty_row, row_of, sight_of}
use Rattle.core_state.specs.Sent.{Sent}
use Rattle.script_run.specs.End.{end_behind, end_of_rest}
use Rattle.script_run.specs.Front.{Plays, PlaysBy, PlaysOn, PlaysWhole}
use Rattle.script_run.specs.Run.{some_refused, script_text}
use Rattle.script_run.specs.Shared.{CutScript, cut_of, statements_by}
use Rattle.script_run.specs.Told.{history_of}
use Rattle.script_run.proofs.BetweenLemmas.{all-between, fault-between, limit-between, refused-all}
use Rattle.script_run.proofs.LapLemmas.{laps-end, settles-plays}
use Rattle.script_run.proofs.OnLemmas.{by-ok}
use Rattle.script_run.proofs.RunLemmas.{at_end, came, finished, within_all, within_more}
use Rattle.script_run.proofs.SharedEndLemmas.{AreSubmitted, HasAnswered, IsOwn, IsSent, IsTold, answered-by, halts-alone, out-halted, rest-halted, unless-wanting}
use Rattle.script_run.proofs.SharedReadLemmas.{reads-all}
use Rattle.script_run.proofs.SharedRunLemmas.{IsShared, ended-way, few-given, finished-way, way-none}
use Rattle.script_run.proofs.SharedScriptLemmas.{IsAlone, IsScript, TellsAll, new-row, tells-whole-given, whole-script}
use Rattle.script_run.proofs.SharedWholeLemmas.{IsPlaying}

-- By what a seat sees.

-- all of a script was replied to, its seat sees what it sent, of which this holds, and of the script this is told
pub record IsDone (Also : List Sent → Type 0) (Told : (wanted : List ℕ) → CutScript → Type 0) (sight : Sight) (ended : Bool)
    (script : List ℕ) (refused : Bool) (taken0 taken : Option (List ℕ)) : Type 0 where
  pub replies : List Reply
  pub appended : Appends taken0 taken (text_of_all replies)
  pub refusals : refused ≡ list_any is_refusal replies
  pub script_is : IsScript ended script replies (changes_of sight.seen)
  pub told : Told script_is.wanted (record { ended = ended; script = script })
  pub given : TellsAll Also sight (statements_of ended script) replies
  pub own : IsOwn sight

-- so it is where its statements were sent, and nothing is waited for
pub done-by : (Also : List Sent → Type 0) (Told : (wanted : List ℕ) → CutScript → Type 0) (row : SeatRow) (sight : Sight)
    (statements : List Statement) (Left : Type 0) (ended : Bool) (script : List ℕ) (refused : Bool) (taken0 taken : Option (List ℕ))
    → row ≡ empty_row → IsOwn sight → sight.row.pending ≡ [] → statements_of ended script ≡ statements
    → (on : PlaysOn None 0 (record { row = row; seen = [] }) [] statements Left sight taken0 taken) → Also on.sent
    → refused ≡ list_any is_refusal on.replies → (is : IsScript ended script on.replies (changes_of sight.seen))
    → Told is.wanted (record { ended = ended; script = script }) → IsDone Also Told sight ended script refused taken0 taken
done-by Also Told row sight statements Left ended script refused taken0 taken empty own idle all on also refusals is told = record {
  replies = on.replies;
  appended = subst (Appends taken0 taken) on.ends.1 on.took;
  refusals = refusals;
  script_is = is;
  told = told;
  given = tells-whole-given Also row sight statements (statements_of ended script) Left taken0 taken empty on also idle all;
  own = own;
}

-- whether some reply is a refusal or none is, the end is that of all of a script
told-all : (Told : CutScript → Type 0) (test : Bool) (given : List ℕ) → Told (record { ended = true; script = given })
    → IfSome (cut_of (end_of_all test) given) (λ cut. Told cut)
told-all Told false given told = told
told-all Told true given told = told

by-all : (test ended : Bool) (given : List ℕ) → statements_of true given ≡ statements_by (end_of_all test) ended given
by-all false ended given = refl
by-all true ended given = refl

module _ (Also : List Sent → Type 0) (Told : (wanted : List ℕ) → CutScript → Type 0) (sight : Sight) (refused : Bool)
    (from from' : ReadingSide) (to to' : WritingSide) where
  -- what its seat sees of the statements then
  sent-done : (end : RunEnd) (ended last : Bool) (given script : List ℕ) → statements_of last script ≡ statements_by end ended given
      → (done : IsDone Also Told sight last script refused to.taken to'.taken) → IsSent Also end ended done.script_is.wanted given sight
  sent-done end ended last given script is done = record {
    sent = record {
      replies = done.replies;
      tells = all.some.tells;
      own = done.own;
      whole = λ ends. all.whole;
      same = λ ends. done.script_is.are ∙ ap (replies_of done.script_is.wanted) is;
      history = λ ends. done.script_is.history ∙ ap (history_of done.script_is.wanted) is;
    };
    also = all.some.also;
  }
    where
      all : TellsAll Also sight (statements_by end ended given) done.replies
      all = subst (λ list. TellsAll Also sight list done.replies) is done.given

  -- a read failed
  pub fault-done : (given : List ℕ) → IsDone Also Told sight false given refused to.taken to'.taken → Consumes from.left from'.left given
      → length given ≤ SCRIPT_LIMIT → HasAnswered Also Told end.ReadFault sight from from' to to'
  fault-done given done gave few = record {
    answers = record {
      given = given;
      written = text_of_all done.replies;
      wanted = done.script_is.wanted;
      replies = fault-between (script_text done.script_is.wanted) from from' to to' given (text_of_all done.replies) gave done.appended few
          done.script_is.text;
      refused = tt;
    };
    told = done.told;
    sent = sent-done end.ReadFault from'.ended false given given refl done;
  }

  -- the byte past the limit came
  pub limit-done : (given script : List ℕ) → IsDone Also Told sight false script refused to.taken to'.taken
      → Consumes from.left from'.left given → length given ≡ SCRIPT_LIMIT + 1 → within_limit given ≡ script
      → HasAnswered Also Told end.ScriptLimit sight from from' to to'
  limit-done given script done gave past within = record {
    answers = record {
      given = given;
      written = text_of_all cut.replies;
      wanted = cut.script_is.wanted;
      replies = limit-between (script_text cut.script_is.wanted) from from' to to' given (text_of_all cut.replies) gave cut.appended past
          cut.script_is.text;
      refused = tt;
    };
    told = cut.told;
    sent = sent-done end.ScriptLimit from'.ended false given (within_limit given) refl cut;
  }
    where
      cut : IsDone Also Told sight false (within_limit given) refused to.taken to'.taken
      cut = subst (λ bytes. IsDone Also Told sight false bytes refused to.taken to'.taken) (sym within) done

  -- the input has ended
  pub all-done : (given : List ℕ) → IsDone Also Told sight true given refused to.taken to'.taken → Consumes from.left from'.left given
      → length given ≤ SCRIPT_LIMIT → HasEnded from' → HasAnswered Also Told (end_of_all refused) sight from from' to to'
  all-done given done gave few has_ended = record {
    answers = record {
      given = given;
      written = text_of_all done.replies;
      wanted = done.script_is.wanted;
      replies = all-between (script_text done.script_is.wanted) from from' to to' given (text_of_all done.replies) refused gave
          done.appended few
          has_ended done.script_is.text;
      refused = refused-all refused (some_refused done.script_is.wanted true given) (sym done.script_is.refusals ∙ sym done.refusals);
    };
    told = told-all (λ cut. Told done.script_is.wanted cut) refused given done.told;
    sent = unless-wanting (end_of_all refused) (IsSent Also (end_of_all refused) from'.ended done.script_is.wanted given sight)
        (sent-done (end_of_all refused) from'.ended true given given (by-all refused from'.ended given) done);
  }

-- Of a run that has a core by itself.

-- all was replied to once the queries came to their end and no statement is left
pub done-shared : (settings : RunSettings) (mid new : State) (waits waits' : Reading) (refused some last : Bool)
    (taken0 taken taken' : Option (List ℕ)) → 0 < settings.slots → IsPlaying (empty_core settings) [] mid waits waits' refused taken0 taken
    → IsAlone new → Plays (Ok some) mid [] new taken taken' → GoesRound mid new → (seat_at new 0).pending ≡ [] → MayCome waits [] last
    → statements_of last waits'.waiting ≡ [] → IsDone (AreSubmitted settings new) (IsTold settings new)
    (sight_of new 0) last waits.waiting (refused || some) taken0 taken'
done-shared settings mid new waits waits' refused some last taken0 taken taken' slots way is_alone plays round idle comes none =
    let first = way.plays in
    let second = plays first.0.on.still first.0.on.goes.waits in
    let both : PlaysBy (Ok (refused || some)) (empty_core settings) [] (way.statements ++ []) ⊥ new taken0 taken' =
    by-ok refused some (empty_core settings) mid new [] way.statements [] ⊥ ⊥ ⊥ taken0 taken taken' first second in
    let all : statements_of last waits.waiting ≡ way.statements ++ [] =
    reads-all waits waits' way.statements last way.reads comes ∙ ap (λ list. way.statements ++ list) none in
    let script = whole-script settings new (way.statements ++ []) ⊥ taken0 taken' last waits.waiting both.0 is_alone idle all in
    done-by (AreSubmitted settings new) (IsTold settings new) (row_of (empty_core settings) 0) (sight_of new 0) (way.statements ++ []) ⊥
    last waits.waiting (refused || some) taken0 taken' (new-row settings) is_alone.own idle all both.0.on both.0.run both.1 script.0 (
      script.1,
      subst (λ replies. new.scan.cut ≤ versions_in new * laps_of settings.slots replies) script.0.are
          (laps-end (empty_core settings) mid new first.0.on.still first.0.on.replies second.0.on.replies slots refl way.laps round
          (settles-plays mid new first.0.on.still ⊥ taken taken' first.0.on.goes.waits second.0 idle)),
    )

-- where the input has not ended no statement is left that is whole
open-done : (settings : RunSettings) (mid new : State) (given : List ℕ) (waits : Reading) (refused some : Bool)
    (taken0 taken taken' : Option (List ℕ)) → 0 < settings.slots
    → IsPlaying (empty_core settings) [] mid (came given) waits refused taken0 taken → IsAlone new → HasNoStatement waits
    → Plays (Ok some) mid [] new taken taken' → GoesRound mid new → (seat_at new 0).pending ≡ [] → IsDone (AreSubmitted settings new)
    (IsTold settings new) (sight_of new 0) false given (refused || some) taken0 taken'
open-done settings mid new given waits refused some taken0 taken taken' slots way is_alone none plays round idle =
    done-shared settings mid new (came given) waits refused some false taken0 taken taken' slots way is_alone plays round idle (λ e. cc)
    (subst (λ ended. statements_of ended waits.waiting ≡ []) way.stays.1 none)

-- a read failed
pub fault-shared : (settings : RunSettings) (now new : State) (waits : Reading) (written : Result Bool Halt) (refused : Bool)
    (from from' : ReadingSide) (left : Option (List ℕ)) (to : WritingSide) (taken : Option (List ℕ)) (to' : WritingSide) (piece : List ℕ)
    → 0 < settings.slots → IsShared settings now waits refused from.left left to.taken taken → IsAlone new → HasNoStatement waits
    → Consumes left from'.left piece → piece ≡ [] → Plays written now [] new taken to'.taken → OnOk written (GoesRound now new)
    → OnOk written ((seat_at new 0).pending ≡ []) → AnswersBy settings new (end_behind written end.ReadFault) from from' to to'
fault-shared settings now new waits (Ok some) refused from from' left to taken to' piece slots run is_alone none gave nothing plays round
    idle =
    answered-by settings new end.ReadFault from from' to to'
    (fault-done (AreSubmitted settings new) (IsTold settings new) (sight_of new 0) (refused || some) from from' to to' run.given
    (open-done settings now new run.given waits refused some to.taken taken to'.taken slots run.way is_alone none plays round idle)
    (rw (append-nil run.given) at (Consumes-trans from.left left from'.left run.given [] run.gave (rw nothing at gave)))
    (few-given settings now waits refused from.left left to.taken taken run))
fault-shared settings now new waits (Err halt) refused from from' left to taken to' piece slots run is_alone none gave nothing plays round
    idle =
    let few = few-given settings now waits refused from.left left to.taken taken run in
    halts-alone settings new is_alone.own from from' to to' halt
    (out-halted settings new is_alone.own from from' to to' halt now waits refused left taken run.given run plays
    (rw (append-nil run.given) at (Consumes-trans from.left left from'.left run.given [] run.gave (rw nothing at gave)))
    (omega (arith, few))
    (within_all run.given few))

-- the byte past the limit came
pub limit-shared : (settings : RunSettings) (now new : State) (waits : Reading) (written : Result Bool Halt) (refused : Bool)
    (from from' : ReadingSide) (left : Option (List ℕ)) (to : WritingSide) (taken : Option (List ℕ)) (to' : WritingSide) (piece : List ℕ)
    → 0 < settings.slots → IsShared settings now waits refused from.left left to.taken taken → IsAlone new → HasNoStatement waits
    → Consumes left from'.left piece → waits.fed ≡ SCRIPT_LIMIT → length piece ≡ 1 → Plays written now [] new taken to'.taken
    → OnOk written (GoesRound now new) → OnOk written ((seat_at new 0).pending ≡ [])
    → AnswersBy settings new (end_behind written end.ScriptLimit) from from' to to'
limit-shared settings now new waits (Ok some) refused from from' left to taken to' piece slots run is_alone none gave full one plays round
    idle =
    let counted = run.way.stays.0 in
    answered-by settings new end.ScriptLimit from from' to to'
    (limit-done (AreSubmitted settings new) (IsTold settings new) (sight_of new 0) (refused || some) from from' to to' (run.given ++ piece)
    run.given
    (open-done settings now new run.given waits refused some to.taken taken to'.taken slots run.way is_alone none plays round idle)
    (Consumes-trans from.left left from'.left run.given piece run.gave gave) (omega (arith, length-append run.given piece))
    (within_more run.given piece (omega arith)))
limit-shared settings now new waits (Err halt) refused from from' left to taken to' piece slots run is_alone none gave full one plays round
    idle =
    let counted = run.way.stays.0 in
    halts-alone settings new is_alone.own from from' to to' halt
    (out-halted settings new is_alone.own from from' to to' halt now waits refused left taken (run.given ++ piece) run plays
    (Consumes-trans from.left left from'.left run.given piece run.gave gave) (omega (arith, length-append run.given piece))
    (within_more run.given piece (omega arith)))

-- the input has ended
pub ended-shared : (settings : RunSettings) (now mid new : State) (waits waits' : Reading) (written : Result Bool Halt)
    (refused some : Bool) (from from' : ReadingSide) (left : Option (List ℕ)) (to : WritingSide) (taken taken' : Option (List ℕ))
    (to' : WritingSide) (piece : List ℕ) → 0 < settings.slots → IsShared settings now waits refused from.left left to.taken taken
    → IsAlone new → Consumes left from'.left piece → piece ≡ [] → HasEnded from'
    → PlaysWhole (Ok some) now (finished waits) mid waits' taken taken' → StaysFed (finished waits) waits'
    → Plays written mid [] new taken' to'.taken → OnOk written (GoesRound mid new) → OnOk written ((seat_at new 0).pending ≡ [])
    → AnswersBy settings new (end_of_rest (refused || some) written) from from' to to'
ended-shared settings now mid new waits waits' (Ok others) refused some from from' left to taken taken' to' piece slots run is_alone gave
    nothing has_ended whole stays plays round idle =
    answered-by settings new (end_of_all ((refused || some) || others)) from from' to to'
    (all-done (AreSubmitted settings new) (IsTold settings new) (sight_of new 0) ((refused || some) || others) from from' to to' run.given
    done
    (rw (append-nil run.given) at (Consumes-trans from.left left from'.left run.given [] run.gave (rw nothing at gave)))
    (few-given settings now waits refused from.left left to.taken taken run) has_ended)
  where
    way : IsPlaying (empty_core settings) [] mid (finished (came run.given)) waits' (refused || some) to.taken taken'
    way = ended-way settings now mid waits waits' refused some from.left left to.taken taken taken' run whole

    none : HasNoStatement waits'
    none = way-none (empty_core settings) now mid (finished (came run.given)) (finished waits) waits' refused some to.taken taken taken'
        (finished-way (empty_core settings) now run.given waits refused to.taken taken run.way) whole

    done : IsDone (AreSubmitted settings new) (IsTold settings new)
        (sight_of new 0) true run.given ((refused || some) || others) to.taken to'.taken
    done = done-shared settings mid new (finished (came run.given)) waits' (refused || some) others true to.taken taken' to'.taken slots way
        is_alone plays round idle
        (at_end (came run.given)) (subst (λ e. statements_of e waits'.waiting ≡ []) stays.1 none)
ended-shared settings now mid new waits waits' (Err halt) refused some from from' left to taken taken' to' piece slots run is_alone gave
    nothing has_ended whole stays plays round idle =
    halts-alone settings new is_alone.own from from' to to' halt
    (rest-halted settings new is_alone.own from from' to to' halt now mid waits waits' refused some left taken taken' piece run gave nothing
    has_ended whole plays)
