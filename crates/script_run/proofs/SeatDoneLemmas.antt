-- How a run by a seat of a board ends whose replies were all written, and one whose reading ended before; and what is told where the core
-- is handed back.
use Rattle.script_run.proofs.Words.{◌++◌, ◌||◌, ◌∙◌, ◌≡◌, [], ap, append-nil, arith, Bool, Consumes, Consumes-trans, end_of_all, Err, false, Halt, HasEnded, HasNoStatement, length, length-append, List, MayCome, None, Ok, OnOk, Option, Reading, refl, Result, RunSettings, SCRIPT_LIMIT, Some, state_of, statements_of, StaysFed, subst, true, ℕ}
use Rattle.star_io.specs.declared.run_end.RunEnd.{RunEnd}
use Rattle.star_io.specs.declared.run_end.RunEnd.TheVariants as end
use Rattle.star_io.specs.Link.{ReadingSide, WritingSide}
use Rattle.core_state.specs.Rows.{Sight, empty_row, sight_of}
use Rattle.event_core.specs.CoreParts.{CoreParts}
use Rattle.script_run.specs.BoardRun.{AnswersBoard}
use Rattle.script_run.specs.End.{end_behind, end_of_rest}
use Rattle.script_run.specs.SeatFront.{SeatPlays, SeatPlaysBy, SeatPlaysWhole}
use Rattle.script_run.specs.Shared.{AnswersSent, AnswersShared, TellsFront, TellsSent, nothing}
use Rattle.script_run.proofs.RunLemmas.{at_end, came, finished, within_all, within_more}
use Rattle.script_run.proofs.SeatEndLemmas.{AnyScript, AnySent, answered-sent, out-sent, rest-sent}
use Rattle.script_run.proofs.SeatFrontLemmas.{seat-ok}
use Rattle.script_run.proofs.SeatReadLemmas.{SeatPlaying}
use Rattle.script_run.proofs.SeatRunLemmas.{IsRunBy, ended-by, ended-none-by, few-by}
use Rattle.script_run.proofs.SharedDoneLemmas.{IsDone, all-done, done-by, fault-done, limit-done}
use Rattle.script_run.proofs.SharedEndLemmas.{IsOwn, unless-weaker}
use Rattle.script_run.proofs.SharedReadLemmas.{reads-all}
use Rattle.script_run.proofs.SharedScriptLemmas.{seen-script}

-- all was replied to once nothing is waited for and no statement is left, where all entries are the seat's own
done-seen : (mid new : Sight) (waits waits' : Reading) (refused some last : Bool) (taken0 taken taken' : Option (List ℕ))
    → SeatPlaying 0 nothing [] mid waits waits' refused taken0 taken → SeatPlays (Ok some) 0 mid [] new taken taken' → new.row.pending ≡ []
    → MayCome waits [] last → statements_of last waits'.waiting ≡ [] → IsOwn new
    → IsDone AnySent AnyScript new last waits.waiting (refused || some) taken0 taken'
done-seen mid new waits waits' refused some last taken0 taken taken' way plays idle comes none own =
    let both : SeatPlaysBy (Ok (refused || some)) 0 nothing [] (way.statements ++ []) ⊥ new taken0 taken' =
    seat-ok refused some 0 nothing mid new [] way.statements [] ⊥ ⊥ ⊥ taken0 taken taken' way.plays
    (plays way.plays.0.still way.plays.0.goes.waits) in
    let all : statements_of last waits.waiting ≡ way.statements ++ [] =
    reads-all waits waits' way.statements last way.reads comes ∙ ap (λ list. way.statements ++ list) none in
    done-by AnySent AnyScript empty_row new (way.statements ++ []) ⊥ last waits.waiting (refused || some) taken0 taken' refl own idle all
    both.0 tt
    both.1 (seen-script empty_row new (way.statements ++ []) ⊥ taken0 taken' last waits.waiting both.0 own idle all) tt

-- where the input has not ended no statement is left that is whole
open-seen : (mid new : Sight) (given : List ℕ) (waits : Reading) (refused some : Bool) (taken0 taken taken' : Option (List ℕ))
    → SeatPlaying 0 nothing [] mid (came given) waits refused taken0 taken → HasNoStatement waits
    → SeatPlays (Ok some) 0 mid [] new taken taken' → new.row.pending ≡ [] → IsOwn new
    → IsDone AnySent AnyScript new false given (refused || some) taken0 taken'
open-seen mid new given waits refused some taken0 taken taken' way none plays idle own =
    done-seen mid new (came given) waits refused some false taken0 taken taken' way plays idle (λ e. cc)
    (subst (λ ended. statements_of ended waits.waiting ≡ []) way.stays.1 none) own

-- a read failed
pub fault-sent : (now new : Sight) (waits : Reading) (written : Result Bool Halt) (refused : Bool) (from from' : ReadingSide)
    (left : Option (List ℕ)) (to : WritingSide) (taken : Option (List ℕ)) (to' : WritingSide) (piece : List ℕ)
    → IsRunBy now waits refused from.left left to.taken taken → HasNoStatement waits → Consumes left from'.left piece → piece ≡ []
    → SeatPlays written 0 now [] new taken to'.taken → OnOk written (new.row.pending ≡ [])
    → AnswersSent (end_behind written end.ReadFault) new from from' to to'
fault-sent now new waits (Ok some) refused from from' left to taken to' piece run none gave nothing_came plays idle =
    answered-sent end.ReadFault new from from' to to' (λ own.
    fault-done AnySent AnyScript new (refused || some) from from' to to' run.given
    (open-seen now new run.given waits refused some to.taken taken to'.taken run.way none plays idle own)
    (rw (append-nil run.given) at (Consumes-trans from.left left from'.left run.given [] run.gave (rw nothing_came at gave)))
    (few-by now waits refused from.left left to.taken taken run))
fault-sent now new waits (Err halt) refused from from' left to taken to' piece run none gave nothing_came plays idle =
    let few = few-by now waits refused from.left left to.taken taken run in
    out-sent new from from' to to' halt now waits refused left taken run.given run plays
    (rw (append-nil run.given) at (Consumes-trans from.left left from'.left run.given [] run.gave (rw nothing_came at gave)))
    (omega (arith, few))
    (within_all run.given few)

-- the byte past the limit came
pub limit-sent : (now new : Sight) (waits : Reading) (written : Result Bool Halt) (refused : Bool) (from from' : ReadingSide)
    (left : Option (List ℕ)) (to : WritingSide) (taken : Option (List ℕ)) (to' : WritingSide) (piece : List ℕ)
    → IsRunBy now waits refused from.left left to.taken taken → HasNoStatement waits → Consumes left from'.left piece
    → waits.fed ≡ SCRIPT_LIMIT → length piece ≡ 1 → SeatPlays written 0 now [] new taken to'.taken → OnOk written (new.row.pending ≡ [])
    → AnswersSent (end_behind written end.ScriptLimit) new from from' to to'
limit-sent now new waits (Ok some) refused from from' left to taken to' piece run none gave full one plays idle =
    let counted = run.way.stays.0 in
    answered-sent end.ScriptLimit new from from' to to' (λ own.
    limit-done AnySent AnyScript new (refused || some) from from' to to' (run.given ++ piece) run.given
    (open-seen now new run.given waits refused some to.taken taken to'.taken run.way none plays idle own)
    (Consumes-trans from.left left from'.left run.given piece run.gave gave) (omega (arith, length-append run.given piece))
    (within_more run.given piece (omega arith)))
limit-sent now new waits (Err halt) refused from from' left to taken to' piece run none gave full one plays idle =
    let counted = run.way.stays.0 in
    out-sent new from from' to to' halt now waits refused left taken (run.given ++ piece) run plays
    (Consumes-trans from.left left from'.left run.given piece run.gave gave) (omega (arith, length-append run.given piece))
    (within_more run.given piece (omega arith))

-- the input has ended
pub ended-sent : (now mid new : Sight) (waits waits' : Reading) (written : Result Bool Halt) (refused some : Bool)
    (from from' : ReadingSide) (left : Option (List ℕ)) (to : WritingSide) (taken taken' : Option (List ℕ)) (to' : WritingSide)
    (piece : List ℕ) → IsRunBy now waits refused from.left left to.taken taken → Consumes left from'.left piece → piece ≡ []
    → HasEnded from' → SeatPlaysWhole (Ok some) 0 now (finished waits) mid waits' taken taken' → StaysFed (finished waits) waits'
    → SeatPlays written 0 mid [] new taken' to'.taken → OnOk written (new.row.pending ≡ [])
    → AnswersSent (end_of_rest (refused || some) written) new from from' to to'
ended-sent now mid new waits waits' (Ok others) refused some from from' left to taken taken' to' piece run gave nothing_came has_ended whole
    stays plays idle =
    answered-sent (end_of_all ((refused || some) || others)) new from from' to to' (λ own.
    all-done AnySent AnyScript new ((refused || some) || others) from from' to to' run.given (done own)
    (rw (append-nil run.given) at (Consumes-trans from.left left from'.left run.given [] run.gave (rw nothing_came at gave)))
    (few-by now waits refused from.left left to.taken taken run) has_ended)
  where
    none : HasNoStatement waits'
    none = ended-none-by now mid waits waits' refused some from.left left to.taken taken taken' run whole

    done : IsOwn new → IsDone AnySent AnyScript new true run.given ((refused || some) || others) to.taken to'.taken
    done own = done-seen mid new (finished (came run.given)) waits' (refused || some) others true to.taken taken' to'.taken
        (ended-by now mid waits waits' refused some from.left left to.taken taken taken' run whole) plays idle (at_end (came run.given))
        (subst (λ e. statements_of e waits'.waiting ≡ []) stays.1 none) own
ended-sent now mid new waits waits' (Err halt) refused some from from' left to taken taken' to' piece run gave nothing_came has_ended whole
    stays plays idle =
    rest-sent new from from' to to' halt now mid waits waits' refused some left taken taken' piece run gave nothing_came has_ended whole
    plays

-- The core is handed back.

-- by a run with workers: what the core tells by what its seat 0 sees it tells then
pub shared-board : (settings : RunSettings) (core : Option CoreParts) (end : RunEnd) (from from' : ReadingSide) (to to' : WritingSide)
    → (settings.workers ≡ 0 → ⊥) → AnswersBoard core end from from' to to'
    → AnswersShared (settings.workers ≡ 0) settings core end from from' to to'
shared-board settings None end from from' to to' many answers = (answers.0, tt)
shared-board settings (Some parts) end from from' to to' many answers = (
  answers.0,
  (
    λ none. absurd (many none),
    unless-weaker end (TellsSent end from'.ended answers.0.wanted answers.0.given (sight_of (state_of parts) 0))
        (TellsFront (settings.workers ≡ 0) settings end from'.ended answers.0.wanted answers.0.given (state_of parts))
        (λ sent. record { sent = sent; submits = λ none. absurd (many none) }) answers.1,
  ),
)
