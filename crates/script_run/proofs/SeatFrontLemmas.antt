-- What a seat of a board does by its turns, one part behind another, and what was written of its replies.
use Rattle.script_run.proofs.Words.{◌++◌, ◌||◌, ◌∙◌, ◌∷◌, ◌≡◌, ◌≢◌, ◌⊎◌, [], ap, append-nil, Appends, Appends-nil, AppendsFront, Bool, Err, false, Halt, IfOk, inr, is_refusal, List, list_any, Memory, NoMemory, None, Ok, OnOk, Option, refl, Reply, Result, Some, Statement, subst, sym, take, text_of, true, ℕ}
use Rattle.std.specs.Prelude.{OnErr}
use Rattle.std.proofs.lemmas.List.Folds.{list_any-append}
use Rattle.board_lock.specs.Seats.{IsSameSeat, view_of}
use Rattle.board_lock.specs.declared.seat.BoardSeat.{BoardSeat}
use Rattle.core_state.specs.Fronts.{Goes, IsDue}
use Rattle.core_state.specs.Rows.{Sight}
use Rattle.core_state.specs.Sent.{Lost, Sent, statements_in}
use Rattle.core_state.proofs.FrontLemmas.{goes-lost}
use Rattle.event_core.specs.CoreParts.{CoreParts}
use Rattle.worker_gate.specs.Turns.{sight_in}
use Rattle.script_run.specs.Front.{EndsSo, PlaysOn}
use Rattle.script_run.specs.SeatFront.{SeatPlays, SeatPlaysBy, TellsWaited}
use Rattle.script_run.specs.SeatTurns.{SitsStill, SendsOne, TellsTried, TookNext}
use Rattle.script_run.specs.declared.seat_front.Waited.{Waited}
use Rattle.script_run.specs.declared.seat_front.Waited.TheVariants as waited
use Rattle.script_run.proofs.OnLemmas.{Eases, eases-none, eases-some, halts-proper, on-then, still-none, text-one, within-reply}
use Rattle.script_run.proofs.SeatTurnLemmas.{stays-none, stays-then, submitted-behind, takes-behind}
use Rattle.script_run.proofs.WholeLemmas.{or_false}

-- Seats.

-- the same seat has the same number
pub same-number : (old new : BoardSeat CoreParts) → IsSameSeat old new → (view_of new).number ≡ (view_of old).number
same-number old new same = new.numbered.1 ∙ same.2 ∙ sym old.numbered.1

-- so what is said by the number of the one is said by that of the other
pub by-number : (Is : ℕ → Type 0) (old new : BoardSeat CoreParts) → IsSameSeat old new → Is (view_of new).number → Is (view_of old).number
by-number Is old new same is = subst Is (same-number old new same) is

-- what is told behind a turn in which a seat sent nothing
pub tried-behind : (taken : Bool) (statement : Statement) (old between new : BoardSeat CoreParts) → IsSameSeat old between
    → SitsStill (view_of old).number (sight_in (view_of old)) (sight_in (view_of between)) → TellsTried taken statement between new
    → TellsTried taken statement old new
tried-behind true statement old between new same stays tells =
    submitted-behind statement (view_of old).number (sight_in (view_of old)) (sight_in (view_of between)) (sight_in (view_of new)) stays
    (by-number (λ (number : ℕ). SendsOne number statement (sight_in (view_of between)) (sight_in (view_of new))) old between same tells)
tried-behind false statement old between new same stays tells = (
  stays-then (view_of old).number (sight_in (view_of old)) (sight_in (view_of between)) (sight_in (view_of new)) stays
      (by-number (λ (number : ℕ). SitsStill number (sight_in (view_of between)) (sight_in (view_of new))) old between same tells.0),
  tells.1,
)

-- what a seat is told that stayed before
pub waited-behind : (how : Waited) (seat : ℕ) (old between new : Sight) → SitsStill seat old between → TellsWaited how seat between new
    → TellsWaited how seat old new
waited-behind (waited.Got ready) seat old between new stays tells = takes-behind ready seat old between new stays tells
waited-behind waited.Nothing seat old between new stays tells = (stays-then seat old between new stays tells.0, tells.1)
waited-behind waited.NotYet seat old between new stays tells = stays-then seat old between new stays tells
waited-behind waited.NoMemory seat old between new stays tells = (stays-then seat old between new stays tells.0, tells.1)

-- One part behind another.

-- all goes well in both
abbrev pub seat-ok : (refused some : Bool) (seat : ℕ) (old between new : Sight) (due : List Sent) (statements others : List Statement)
    (Left Left' Left'' : Type 0) (taken0 taken taken' : Option (List ℕ))
    → (first : SeatPlaysBy (Ok refused) seat old due statements Left between taken0 taken)
    → SeatPlaysBy (Ok some) seat between first.0.still others Left' new taken taken'
    → SeatPlaysBy (Ok (refused || some)) seat old due (statements ++ others) Left'' new taken0 taken'
seat-ok refused some seat old between new due statements others Left Left' Left'' taken0 taken taken' first second = (
  on-then None seat old between new due statements others Left Left' Left'' taken0 taken taken' (eases-none Left' Left'') first.0 second.0,
  ap (λ test. test || some) first.1 ∙ ap (λ test. list_any is_refusal first.0.replies || test) second.1
      ∙ sym (list_any-append is_refusal first.0.replies second.0.replies),
)

-- the second halts
abbrev pub seat-err : (refused : Bool) (halt : Halt) (seat : ℕ) (old between new : Sight) (due : List Sent)
    (statements others : List Statement) (Left Left' Left'' : Type 0) (taken0 taken taken' : Option (List ℕ)) → (Left' → Left'')
    → (first : SeatPlaysBy (Ok refused) seat old due statements Left between taken0 taken)
    → SeatPlaysBy (Err halt) seat between first.0.still others Left' new taken taken'
    → SeatPlaysBy (Err halt) seat old due (statements ++ others) Left'' new taken0 taken'
seat-err refused halt seat old between new due statements others Left Left' Left'' taken0 taken taken' more first second = (
  on-then (Some halt) seat old between new due statements others Left Left' Left'' taken0 taken taken' (eases-some halt Left' Left'' more)
      first.0 second.0,
  tt,
)

-- something else may be left
abbrev pub seat-eased : (halted : Option Halt) (seat : ℕ) (old new : Sight) (due : List Sent) (statements : List Statement)
    (Left Left' : Type 0) (taken taken' : Option (List ℕ)) → Eases halted Left Left'
    → PlaysOn halted seat old due statements Left new taken taken' → PlaysOn halted seat old due statements Left' new taken taken'
seat-eased halted seat old new due statements Left Left' taken taken' eases on = record {
  sent = on.sent;
  said = on.said;
  still = on.still;
  replies = on.replies;
  rest = on.rest;
  are = on.are;
  goes = on.goes;
  written = on.written;
  took = on.took;
  ends = eases on.still on.rest on.written on.replies on.ends;
}

-- all was done, and there was no memory for something that is left: a reply that is waited for, a statement, or else
abbrev pub seat-wants : (refused : Bool) (seat : ℕ) (old new : Sight) (due : List Sent) (statements : List Statement) (Left Left' : Type 0)
    (taken taken' : Option (List ℕ)) → (plays : SeatPlaysBy (Ok refused) seat old due statements Left new taken taken')
    → (plays.0.still ≢ []) ⊎ ((plays.0.rest ≢ []) ⊎ Left') → SeatPlaysBy (Err NoMemory) seat old due statements Left' new taken taken'
seat-wants refused seat old new due statements Left Left' taken taken' plays left = (
  record {
    sent = plays.0.sent;
    said = plays.0.said;
    still = plays.0.still;
    replies = plays.0.replies;
    rest = plays.0.rest;
    are = plays.0.are;
    goes = plays.0.goes;
    written = plays.0.written;
    took = plays.0.took;
    ends = (([], sym plays.0.ends.1 ∙ sym (append-nil plays.0.written)), inr left);
  },
  tt,
)

-- something else is left for which there was no memory
abbrev pub seat-left : (refused : Bool) (seat : ℕ) (old new : Sight) (due : List Sent) (statements : List Statement) (Left Left' : Type 0)
    (taken taken' : Option (List ℕ)) → Left' → SeatPlaysBy (Ok refused) seat old due statements Left new taken taken'
    → SeatPlaysBy (Err NoMemory) seat old due statements Left' new taken taken'
seat-left refused seat old new due statements Left Left' taken taken' left plays =
    seat-wants refused seat old new due statements Left Left' taken taken' plays (inr (inr left))

-- No reply is taken.

-- these statements were sent, and nothing was written
abbrev pub seat-sends : (seat : ℕ) (old new : Sight) (due still sent : List Sent) (statements : List Statement) (taken : Option (List ℕ))
    → statements ≡ statements_in sent ++ [] → Goes seat old due new still sent [] []
    → SeatPlaysBy (Ok false) seat old due statements ⊥ new taken taken
seat-sends seat old new due still sent statements taken are goes = (
  record {
    sent = sent;
    said = [];
    still = still;
    replies = [];
    rest = [];
    are = are;
    goes = goes;
    written = [];
    took = Appends-nil taken;
    ends = (refl, refl);
  },
  refl,
)

-- nothing was sent
abbrev pub seat-stays : (seat : ℕ) (old new : Sight) (due : List Sent) (taken : Option (List ℕ)) → IsDue seat old due → SitsStill seat old new
    → SeatPlaysBy (Ok false) seat old due [] ⊥ new taken taken
seat-stays seat old new due taken waits stays = seat-sends seat old new due due [] [] taken refl (stays due waits)

-- nothing happens
abbrev pub seat-none : (seat : ℕ) (sight : Sight) (due : List Sent) (taken : Option (List ℕ)) → IsDue seat sight due
    → SeatPlaysBy (Ok false) seat sight due [] ⊥ sight taken taken
seat-none seat sight due taken waits = seat-stays seat sight sight due taken waits (stays-none seat sight)

-- a statement was sent
abbrev pub seat-sent : (seat : ℕ) (statement : Statement) (old new : Sight) (due : List Sent) (taken : Option (List ℕ)) → IsDue seat old due
    → SendsOne seat statement old new → SeatPlaysBy (Ok false) seat old due (statement ∷ []) ⊥ new taken taken
seat-sent seat statement old new due taken waits submitted =
    seat-sends seat old new due (due ++ (submitted due waits).0 ∷ []) ((submitted due waits).0 ∷ []) (statement ∷ []) taken
    (ap (λ one. one ∷ []) (sym (submitted due waits).1)) (submitted due waits).3

-- statements were sent, and behind them others or none, with the replies that were written or halted then
pub seat-behind : (result : Result Bool Halt) (seat : ℕ) (old between new : Sight) (statements others : List Statement)
    (taken taken' : Option (List ℕ)) → SeatPlays (Ok false) seat old statements between taken taken
    → SeatPlays result seat between others new taken taken' → SeatPlays result seat old (statements ++ others) new taken taken'
seat-behind (Ok refused) seat old between new statements others taken taken' first second due waits =
    let before = first due waits in
    seat-ok false refused seat old between new due statements others ⊥ ⊥ ⊥ taken taken taken' before
    (second before.0.still before.0.goes.waits)
seat-behind (Err halt) seat old between new statements others taken taken' first second due waits =
    let before = first due waits in
    seat-err false halt seat old between new due statements others ⊥ ⊥ ⊥ taken taken taken' (λ never. never) before
    (second before.0.still before.0.goes.waits)

-- A reply is taken.

-- and so much of it written
abbrev seat-took : (halted : Option Halt) (seat : ℕ) (old new : Sight) (due : List Sent) (reply : Reply) (written : List ℕ)
    (taken taken' : Option (List ℕ)) → TookNext seat old due new reply → Appends taken taken' written
    → ((Left : Type 0) → EndsSo halted [] written (reply ∷ []) Left) → PlaysOn halted seat old due [] ⊥ new taken taken'
seat-took halted seat old new due reply written taken taken' takes took ends = record {
  sent = [];
  said = takes.first ∷ [];
  still = takes.rest;
  replies = reply ∷ [];
  rest = [];
  are = refl;
  goes = takes.goes;
  written = written;
  took = took;
  ends = ends _;
}

-- all of it, or not
abbrev pub seat-took-ok : (told : Bool) (seat : ℕ) (old new : Sight) (due : List Sent) (reply : Reply) (taken taken' : Option (List ℕ))
    → TookNext seat old due new reply → Appends taken taken' (text_of reply) → told ≡ is_refusal reply
    → SeatPlaysBy (Ok told) seat old due [] ⊥ new taken taken'
seat-took-ok told seat old new due reply taken taken' takes took is_told = (
  seat-took None seat old new due reply (text_of reply) taken taken' takes took (λ Left. (refl, sym (text-one reply))),
  is_told ∙ sym (or_false (is_refusal reply)),
)

abbrev pub seat-took-err : (halt : Halt) (seat : ℕ) (old new : Sight) (due : List Sent) (reply : Reply) (taken taken' : Option (List ℕ))
    → TookNext seat old due new reply → AppendsFront taken taken' (text_of reply)
    → SeatPlaysBy (Err halt) seat old due [] ⊥ new taken taken'
seat-took-err halt seat old new due reply taken taken' takes took = (
  seat-took (Some halt) seat old new due reply (take took.0 (text_of reply)) taken taken' takes took.2
      (λ Left. halts-proper halt (reply ∷ []) (take took.0 (text_of reply)) Left (within-reply reply took.0 took.1)),
  tt,
)

-- A statement for which no memory was left.

-- nothing is waited for, and its reply `memory` was written, or not all of it
abbrev pub seat-lost : (halted : Option Halt) (seat : ℕ) (statement : Statement) (sight : Sight) (due : List Sent) (written : List ℕ)
    (taken taken' : Option (List ℕ)) → IsDue seat sight due → due ≡ [] → Appends taken taken' written
    → EndsSo halted [] written (Memory ∷ []) ((◌≢◌ {A = List Sent} [] []) ⊎ ((◌≢◌ {A = List Statement} [] []) ⊎ ⊥))
    → PlaysOn halted seat sight due (statement ∷ []) ⊥ sight taken taken'
seat-lost halted seat statement sight due written taken taken' waits none took ends = record {
  sent = Lost statement ∷ [];
  said = Lost statement ∷ [];
  still = [];
  replies = Memory ∷ [];
  rest = [];
  are = refl;
  goes = subst (λ list. Goes seat sight list sight [] (Lost statement ∷ []) (Lost statement ∷ []) (Memory ∷ [])) (sym none)
      (goes-lost seat sight statement (subst (IsDue seat sight) none waits));
  written = written;
  took = took;
  ends = ends;
}

-- all was written that was waited for, and then `memory`, or not all of it
pub seat-loses : (result : Result Bool Halt) (others : Bool) (seat : ℕ) (statement : Statement) (old new : Sight)
    (taken0 taken taken' : Option (List ℕ)) → SeatPlays (Ok others) seat old [] new taken0 taken → new.row.pending ≡ []
    → IfOk result (λ refused. refused ≡ is_refusal Memory)
    → OnOk result (Appends taken taken' (text_of Memory)) → OnErr result (AppendsFront taken taken' (text_of Memory))
    → SeatPlays result seat old (statement ∷ []) new taken0 taken'
seat-loses (Ok refused) others seat statement old new taken0 taken taken' plays idle is_refused wrote halted due waits =
    let first = plays due waits in
    let none = still-none new.seen first.0.still first.0.goes.waits.given (sym first.0.goes.waits.pending ∙ idle) in
    let second : PlaysOn None seat new first.0.still (statement ∷ []) ⊥ new taken taken' =
    seat-lost None seat statement new first.0.still (text_of Memory) taken taken' first.0.goes.waits none wrote
    (refl, sym (text-one Memory)) in (
      on-then None seat old new new due [] (statement ∷ []) ⊥ ⊥ ⊥ taken0 taken taken' (eases-none ⊥ ⊥) first.0 second,
      is_refused ∙ (elim (list_any is_refusal first.0.replies) as (λ b. true ≡ (b || true)) [ true ↦ refl | false ↦ refl ])
          ∙ sym (list_any-append is_refusal first.0.replies (Memory ∷ [])),
    )
seat-loses (Err halt) others seat statement old new taken0 taken taken' plays idle is_refused wrote halted due waits =
    let first = plays due waits in
    let none = still-none new.seen first.0.still first.0.goes.waits.given (sym first.0.goes.waits.pending ∙ idle) in
    let second : PlaysOn (Some halt) seat new first.0.still (statement ∷ []) ⊥ new taken taken' =
    seat-lost (Some halt) seat statement new first.0.still (take halted.0 (text_of Memory)) taken taken' first.0.goes.waits none halted.2
    (halts-proper halt (Memory ∷ []) (take halted.0 (text_of Memory)) _ (within-reply Memory halted.0 halted.1)) in (
      on-then (Some halt) seat old new new due [] (statement ∷ []) ⊥ ⊥ ⊥ taken0 taken taken' (eases-some halt ⊥ ⊥ (λ never. never)) first.0
          second,
      tt,
    )
