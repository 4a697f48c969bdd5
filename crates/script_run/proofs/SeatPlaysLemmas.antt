-- What a seat did with statements by turns of it, one part behind another.
use Rattle.script_run.proofs.Words.{◌++◌, ◌||◌, ◌∙◌, ◌∷◌, ◌≡◌, ◌≢◌, ◌⊎◌, [], ap, append-nil, append_assoc, Appends, AppendsFront, Bool, drop, Err, false, Halt, inl, inr, is_refusal, IsReplyOf, length, List, NoMemory, None, Ok, Ready, refl, Reply, Result, Statement, subst, sym, take, take-append-drop, text_of, ℕ, ⊎_elim}
use Rattle.star_io.specs.Link.{WritingSide}
use Rattle.star_store.proofs.AppendLemmas.{none_left}
use Rattle.board_lock.specs.Seats.{view_of}
use Rattle.board_lock.specs.declared.seat.BoardLock.{BoardLock}
use Rattle.board_lock.specs.declared.seat.BoardSeat.{BoardSeat}
use Rattle.core_state.specs.Sent.{pendings_of, statements_in}
use Rattle.event_core.specs.CoreParts.{CoreParts}
use Rattle.worker_gate.specs.Hands.{HasDoneIf}
use Rattle.worker_gate.specs.Turns.{IsReady, sight_in}
use Rattle.script_run.specs.Answer.{CountsHalt}
use Rattle.script_run.specs.SeatFront.{PlaysAt, PlaysFirst, SeatPlays}
use Rattle.script_run.specs.SeatTurns.{SitsStill, StaysReady, SendsAll, TakesNext}
use Rattle.script_run.proofs.OnLemmas.{halts-weaker}
use Rattle.script_run.proofs.RunLemmas.{counts-behind}
use Rattle.script_run.proofs.SeatFrontLemmas.{by-number, seat-behind, seat-err, seat-ok, seat-stays, seat-took-err, seat-took-ok, seat-wants}
use Rattle.script_run.proofs.SeatManyLemmas.{seat-sent-all}
use Rattle.script_run.proofs.SeatTurnLemmas.{out-none, out-then, stays-none}
use Rattle.script_run.proofs.WholeLemmas.{or_false}

-- One part behind another.

-- replies were written in both
pub played-ok : (board : BoardLock CoreParts) (refused some : Bool) (old between new : BoardSeat CoreParts) (statements others : List Statement)
    (to0 to to' : WritingSide) → PlaysAt board (Ok refused) old between statements to0 to → PlaysAt board (Ok some) between new others to to'
    → PlaysAt board (Ok (refused || some)) old new (statements ++ others) to0 to'
played-ok board refused some old between new statements others to0 to to' first second =
    let mid = sight_in (view_of between) in
    let now = sight_in (view_of new) in
    let behind = by-number (λ (number : ℕ). SeatPlays (Ok some) number mid others now to.taken to'.taken) old between first.seat.same
    second.plays in
    record {
      seat = out-then board (HasDoneIf None) (HasDoneIf None) old between new first.seat second.seat;
      plays = λ due waits.
          let before = first.plays due waits in
          seat-ok refused some (view_of old).number (sight_in (view_of old)) mid now due statements others ⊥ ⊥ ⊥ to0.taken to.taken to'.taken
          before (behind before.0.still before.0.goes.waits);
      faults = second.faults ∙ first.faults;
    }

-- they halt in the second
pub played-err : (board : BoardLock CoreParts) (refused : Bool) (halt : Halt) (old between new : BoardSeat CoreParts)
    (statements others : List Statement) (to0 to to' : WritingSide) → PlaysAt board (Ok refused) old between statements to0 to
    → PlaysAt board (Err halt) between new others to to' → PlaysAt board (Err halt) old new (statements ++ others) to0 to'
played-err board refused halt old between new statements others to0 to to' first second =
    let mid = sight_in (view_of between) in
    let now = sight_in (view_of new) in
    let behind = by-number (λ (number : ℕ). SeatPlays (Err halt) number mid others now to.taken to'.taken) old between first.seat.same
    second.plays in
    record {
      seat = out-then board (HasDoneIf None) (HasDoneIf None) old between new first.seat second.seat;
      plays = λ due waits.
          let before = first.plays due waits in
          seat-err refused halt (view_of old).number (sight_in (view_of old)) mid now due statements others ⊥ ⊥ ⊥ to0.taken to.taken to'.taken
          (λ never. never) before (behind before.0.still before.0.goes.waits);
      faults = counts-behind (Err halt) to0 to to' first.faults second.faults;
    }

-- what is left is left with others behind it
some-behind : (rest others : List Statement) → rest ≢ [] → (rest ++ others) ≢ []
some-behind [] others some none = some refl
some-behind (one ∷ rest) others some none = cc

-- they halt before the second
pub played-short : (board : BoardLock CoreParts) (halt : Halt) (old new : BoardSeat CoreParts) (statements others : List Statement)
    (to to' : WritingSide) → PlaysAt board (Err halt) old new statements to to'
    → PlaysAt board (Err halt) old new (statements ++ others) to to'
played-short board halt old new statements others to to' first = record {
  seat = first.seat;
  plays = λ due waits.
      let plays = first.plays due waits in (
        record {
          sent = plays.0.sent;
          said = plays.0.said;
          still = plays.0.still;
          replies = plays.0.replies;
          rest = plays.0.rest ++ others;
          are = ap (λ list. list ++ others) plays.0.are ∙ append_assoc (statements_in plays.0.sent) plays.0.rest others;
          goes = plays.0.goes;
          written = plays.0.written;
          took = plays.0.took;
          ends = halts-weaker halt plays.0.replies plays.0.written ((plays.0.still ≢ []) ⊎ ((plays.0.rest ≢ []) ⊎ ⊥))
              ((plays.0.still ≢ []) ⊎ (((plays.0.rest ++ others) ≢ []) ⊎ ⊥))
              (⊎_elim (λ waits. inl waits) (⊎_elim (λ some. inr (inl (some-behind plays.0.rest others some))) (λ never. absurd never)))
              plays.0.ends;
        },
        tt,
      );
  faults = first.faults;
}

-- a turn in which nothing was written, and what follows
pub played-behind : (board : BoardLock CoreParts) (result : Result Bool Halt) (old between new : BoardSeat CoreParts)
    (statements others : List Statement) (to to' : WritingSide) → StaysReady board old between
    → SeatPlays (Ok false) (view_of old).number (sight_in (view_of old)) statements (sight_in (view_of between)) to.taken to.taken
    → PlaysAt board result between new others to to' → PlaysAt board result old new (statements ++ others) to to'
played-behind board result old between new statements others to to' seat first second = record {
  seat = out-then board (HasDoneIf None) (HasDoneIf None) old between new seat second.seat;
  plays = seat-behind result (view_of old).number (sight_in (view_of old)) (sight_in (view_of between)) (sight_in (view_of new)) statements
      others to.taken to'.taken first
      (by-number (λ (number : ℕ). SeatPlays result number (sight_in (view_of between)) others (sight_in (view_of new)) to.taken to'.taken)
      old between seat.same second.plays);
  faults = second.faults;
}

-- nothing was sent, taken or written in a turn, or nothing happens
played-stays : (board : BoardLock CoreParts) (old new : BoardSeat CoreParts) (to : WritingSide) → StaysReady board old new
    → SitsStill (view_of old).number (sight_in (view_of old)) (sight_in (view_of new)) → PlaysAt board (Ok false) old new [] to to
played-stays board old new to seat stays = record {
  seat = seat;
  plays = λ due waits.
      seat-stays (view_of old).number (sight_in (view_of old)) (sight_in (view_of new)) due to.taken waits stays;
  faults = refl;
}

pub played-none : (board : BoardLock CoreParts) (seat : BoardSeat CoreParts) (to : WritingSide) → IsReady board None seat
    → PlaysAt board (Ok false) seat seat [] to to
played-none board seat to ready =
    played-stays board seat seat to (out-none board (HasDoneIf None) seat ready)
    (stays-none (view_of seat).number (sight_in (view_of seat)))

-- The replies, one after the other.

-- one was taken in a turn and written, or not all of it
pub took-ok : (board : BoardLock CoreParts) (told : Bool) (ready : Ready) (reply : Reply) (old new : BoardSeat CoreParts) (to to' : WritingSide)
    → StaysReady board old new → TakesNext ready (view_of old).number (sight_in (view_of old)) (sight_in (view_of new))
    → IsReplyOf ready reply → Appends to.taken to'.taken (text_of reply) → told ≡ is_refusal reply → CountsHalt (Ok told) to to'
    → PlaysAt board (Ok told) old new [] to to'
took-ok board told ready reply old new to to' seat takes is wrote is_told counts = record {
  seat = seat;
  plays = λ due waits.
      seat-took-ok told (view_of old).number (sight_in (view_of old)) (sight_in (view_of new)) due reply to.taken to'.taken
      (takes due reply waits is) wrote is_told;
  faults = counts;
}

pub took-err : (board : BoardLock CoreParts) (halt : Halt) (ready : Ready) (reply : Reply) (old new : BoardSeat CoreParts) (to to' : WritingSide)
    → StaysReady board old new → TakesNext ready (view_of old).number (sight_in (view_of old)) (sight_in (view_of new))
    → IsReplyOf ready reply → AppendsFront to.taken to'.taken (text_of reply) → CountsHalt {A = Bool} (Err halt) to to'
    → PlaysAt board (Err halt) old new [] to to'
took-err board halt ready reply old new to to' seat takes is wrote counts = record {
  seat = seat;
  plays = λ due waits.
      seat-took-err halt (view_of old).number (sight_in (view_of old)) (sight_in (view_of new)) due reply to.taken to'.taken
      (takes due reply waits is) wrote;
  faults = counts;
}

-- no more was taken
pub replies-stay : (board : BoardLock CoreParts) (refused : Bool) (old between new : BoardSeat CoreParts) (to0 to : WritingSide)
    → PlaysAt board (Ok refused) old between [] to0 to → StaysReady board between new
    → SitsStill (view_of between).number (sight_in (view_of between)) (sight_in (view_of new)) → PlaysAt board (Ok refused) old new [] to0 to
replies-stay board refused old between new to0 to first seat stays =
    subst (λ some. PlaysAt board (Ok some) old new [] to0 to) (or_false refused)
    (played-ok board refused false old between new [] [] to0 to to first (played-stays board between new to seat stays))

-- nor was there memory for one that is waited for
pub replies-want : (board : BoardLock CoreParts) (refused : Bool) (old between new : BoardSeat CoreParts) (to0 to : WritingSide)
    → PlaysAt board (Ok refused) old between [] to0 to → StaysReady board between new
    → SitsStill (view_of between).number (sight_in (view_of between)) (sight_in (view_of new)) × ((sight_in (view_of new)).row.pending ≢ [])
    → PlaysAt board (Err NoMemory) old new [] to0 to
replies-want board refused old between new to0 to first seat tells =
    let all = replies-stay board refused old between new to0 to first seat tells.0 in record {
      seat = all.seat;
      plays = λ due waits.
          let plays = all.plays due waits in
          seat-wants refused (view_of old).number (sight_in (view_of old)) (sight_in (view_of new)) due [] ⊥ ⊥ to0.taken to.taken plays
          (inl (λ none. tells.1 (plays.0.goes.waits.pending ∙ ap (pendings_of (sight_in (view_of new)).seen) none)));
      faults = all.faults;
    }

-- The first statements of a list, and the others.

-- none was given yet
pub first-none : (board : BoardLock CoreParts) (seat : BoardSeat CoreParts) (all rest : List Statement) (to : WritingSide) → rest ≡ all
    → IsReady board None seat → PlaysFirst board (Ok false) seat seat all rest to to
first-none board seat all rest to is ready = record { first = []; are = sym is; plays = played-none board seat to ready }

-- some were sent in one turn, and the replies followed that were there
pub first-turn : (board : BoardLock CoreParts) (result : Result Bool Halt) (n : ℕ) (old between new : BoardSeat CoreParts)
    (all rest : List Statement) (to to' : WritingSide) → StaysReady board old between
    → SendsAll (view_of old).number (take n all) (sight_in (view_of old)) (sight_in (view_of between)) → rest ≡ drop n all
    → PlaysAt board result between new [] to to' → PlaysFirst board result old new all rest to to'
first-turn board result n old between new all rest to to' seat sent is plays = record {
  first = take n all;
  are = sym (ap (λ list. take n all ++ list) is ∙ take-append-drop n all);
  plays = subst (λ list. PlaysAt board result old new list to to') (append-nil (take n all))
      (played-behind board result old between new (take n all) [] to to' seat
      (seat-sent-all (view_of old).number (take n all) (sight_in (view_of old)) (sight_in (view_of between)) to.taken sent) plays);
}

-- the others behind them
pub first-ok : (board : BoardLock CoreParts) (refused some : Bool) (old between new : BoardSeat CoreParts) (all rest : List Statement)
    (to0 to to' : WritingSide) → PlaysFirst board (Ok refused) old between all rest to0 to
    → PlaysAt board (Ok some) between new rest to to' → PlaysAt board (Ok (refused || some)) old new all to0 to'
first-ok board refused some old between new all rest to0 to to' way plays =
    subst (λ list. PlaysAt board (Ok (refused || some)) old new list to0 to') (sym way.are)
    (played-ok board refused some old between new way.first rest to0 to to' way.plays plays)

pub first-err : (board : BoardLock CoreParts) (refused : Bool) (halt : Halt) (old between new : BoardSeat CoreParts) (all rest : List Statement)
    (to0 to to' : WritingSide) → PlaysFirst board (Ok refused) old between all rest to0 to
    → PlaysAt board (Err halt) between new rest to to' → PlaysAt board (Err halt) old new all to0 to'
first-err board refused halt old between new all rest to0 to to' way plays =
    subst (λ list. PlaysAt board (Err halt) old new list to0 to') (sym way.are)
    (played-err board refused halt old between new way.first rest to0 to to' way.plays plays)

-- or none of them
pub first-short : (board : BoardLock CoreParts) (halt : Halt) (old new : BoardSeat CoreParts) (all rest : List Statement) (to to' : WritingSide)
    → PlaysFirst board (Err halt) old new all rest to to' → PlaysAt board (Err halt) old new all to to'
first-short board halt old new all rest to to' way =
    subst (λ list. PlaysAt board (Err halt) old new list to to') (sym way.are)
    (played-short board halt old new way.first rest to to' way.plays)

-- one more
pub first-more : (board : BoardLock CoreParts) (refused some : Bool) (old between new : BoardSeat CoreParts) (all rest left : List Statement)
    (statement : Statement) (to0 to to' : WritingSide) → PlaysFirst board (Ok refused) old between all rest to0 to
    → rest ≡ statement ∷ left → PlaysAt board (Ok some) between new (statement ∷ []) to to'
    → PlaysFirst board (Ok (refused || some)) old new all left to0 to'
first-more board refused some old between new all rest left statement to0 to to' way is plays = record {
  first = way.first ++ statement ∷ [];
  are = way.are ∙ ap (λ list. way.first ++ list) is ∙ sym (append_assoc way.first (statement ∷ []) left);
  plays = played-ok board refused some old between new way.first (statement ∷ []) to0 to to' way.plays plays;
}

-- the replies halt at the next one
pub first-halts : (board : BoardLock CoreParts) (refused : Bool) (halt : Halt) (old between new : BoardSeat CoreParts)
    (all rest left : List Statement) (statement : Statement) (to0 to to' : WritingSide)
    → PlaysFirst board (Ok refused) old between all rest to0 to → rest ≡ statement ∷ left
    → PlaysAt board (Err halt) between new (statement ∷ []) to to' → PlaysAt board (Err halt) old new all to0 to'
first-halts board refused halt old between new all rest left statement to0 to to' way is plays =
    first-err board refused halt old between new all rest to0 to to' way
    (subst (λ list. PlaysAt board (Err halt) between new list to to') (sym is)
    (played-short board halt between new (statement ∷ []) left to to' plays))

-- none is left
pub first-all : (board : BoardLock CoreParts) (refused : Bool) (old new : BoardSeat CoreParts) (all rest : List Statement) (n : ℕ)
    (to to' : WritingSide) → PlaysFirst board (Ok refused) old new all rest to to' → n ≡ length rest → n ≡ 0
    → PlaysAt board (Ok refused) old new all to to'
first-all board refused old new all rest n to to' way long none =
    subst (λ list. PlaysAt board (Ok refused) old new list to to')
    (sym (way.are ∙ ap (λ list. way.first ++ list) (none_left rest n long none) ∙ append-nil way.first)) way.plays
