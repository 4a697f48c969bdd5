-- How a run by a seat of a board ends whose replies halt, and what stays told once the seat left what it waited for.
use Rattle.script_run.proofs.Words.{◌++◌, ◌+◌, ◌||◌, ◌∙◌, ◌≡◌, ◌≤◌, [], All, ap, append-nil, arith, Bool, changes_of, Consumes, Consumes-trans, end_of_halt, Entry, Err, fed_with, Halt, HasEnded, length, List, MayCome, NoMemory, Ok, Option, Reading, refl, SCRIPT_LIMIT, Some, subst, sym, within_limit, ℕ}
use Rattle.star_io.specs.Link.{ReadingSide, WritingSide}
use Rattle.star_io.specs.declared.run_end.RunEnd.{RunEnd}
use Rattle.core_state.specs.Rows.{Sight, empty_row, made_by}
use Rattle.core_state.specs.Sent.{Sent}
use Rattle.script_run.specs.Front.{PlaysOn}
use Rattle.script_run.specs.Home.{Leaves}
use Rattle.script_run.specs.SeatFront.{SeatPlays, SeatPlaysWhole}
use Rattle.script_run.specs.Shared.{AnswersSent, CutScript, TellsSent, nothing, statements_by}
use Rattle.script_run.proofs.BoardCloseLemmas.{none-came}
use Rattle.script_run.proofs.RunLemmas.{came, finished, within_all}
use Rattle.script_run.proofs.SeatFrontLemmas.{seat-err, seat-left}
use Rattle.script_run.proofs.SeatReadLemmas.{SeatPlaying}
use Rattle.script_run.proofs.SeatRunLemmas.{IsRunBy, WaitsFor, ended-by, fed-by, few-by, finished-by, halted-by-way}
use Rattle.script_run.proofs.SeatTellsLemmas.{lets-made, tells-lets}
use Rattle.script_run.proofs.SharedEndLemmas.{HasAnswered, IsCut, IsOwn, IsSent, ended-cut, front-cut, halted-cut, halts-by, out-cut, unless-weaker}

-- of what was sent, and of the script, no more is told
abbrev pub AnySent : List Sent → Type 0
AnySent sent = Unit {0}

abbrev pub AnyScript : (wanted : List ℕ) → CutScript → Type 0
AnyScript wanted cut = Unit {0}

-- what a run tells by what its seat sees, where all entries that it has seen are its own
pub answered-sent : (end : RunEnd) (new : Sight) (from from' : ReadingSide) (to to' : WritingSide)
    → (IsOwn new → HasAnswered AnySent AnyScript end new from from' to to') → AnswersSent end new from from' to to'
answered-sent end new from from' to to' has own =
    let found = has own in (
      found.answers,
      unless-weaker end (IsSent AnySent end from'.ended found.answers.wanted found.answers.given new)
          (TellsSent end from'.ended found.answers.wanted found.answers.given new) (λ is. is.sent) found.sent,
    )

-- The replies halt.

module _ (new : Sight) (from from' : ReadingSide) (to to' : WritingSide) where
  -- where all entries are its own the replies to the script halted
  halts-sent : (halt : Halt) → (IsOwn new → IsCut AnySent halt new from from' to to') → AnswersSent (end_of_halt halt) new from from' to to'
  halts-sent halt cut = answered-sent (end_of_halt halt) new from from' to to'
      (λ own. halts-by AnySent empty_row refl new own from from' to to' AnyScript halt (cut own))

  -- no memory was left for a piece
  pub unfed-sent : (waits : Reading) (refused : Bool) (left : Option (List ℕ)) (piece : List ℕ)
      → IsRunBy new waits refused from.left left to.taken to'.taken → Consumes left from'.left piece
      → waits.fed + length piece ≤ SCRIPT_LIMIT → from'.ended ≡ from.ended → from'.faults ≡ from.faults
      → AnswersSent (end_of_halt NoMemory) new from from' to to'
  unfed-sent waits refused left piece run gave few same unfailed = halts-sent NoMemory (λ own.
      let fed = fed-by new waits (fed_with waits piece) refused from.left left from'.left to.taken to'.taken piece run gave refl few in
      front-cut AnySent empty_row refl new own from from' to to' fed.way.statements (fed_with waits piece) (Unit {0}) fed.given
      (seat-left refused 0 nothing new [] fed.way.statements ⊥ (Unit {0}) to.taken to'.taken tt fed.way.plays).0 tt fed.way.reads fed.gave
      (few-by new (fed_with waits piece) refused from.left from'.left to.taken to'.taken fed) same unfailed)

  -- before the input has ended
  pub halted-sent : (halt : Halt) (now : Sight) (waits waits' : Reading) (refused : Bool) (taken : Option (List ℕ))
      → IsRunBy now waits refused from.left from'.left to.taken taken → SeatPlaysWhole (Err halt) 0 now waits new waits' taken to'.taken
      → from'.ended ≡ from.ended → from'.faults ≡ from.faults → AnswersSent (end_of_halt halt) new from from' to to'
  halted-sent halt now waits waits' refused taken run plays same unfailed = halts-sent halt (λ own.
      let reads = halted-by-way halt now new (came run.given) waits waits' refused to.taken taken to'.taken run.way plays in
      halted-cut AnySent empty_row refl new own from from' to to' halt reads.statements reads.behind run.given reads.on tt reads.reads
      run.gave
      (few-by now waits refused from.left from'.left to.taken taken run) same unfailed)

  -- where the replies that were waited for are written, behind a reading
  out-by : (halt : Halt) (now : Sight) (first waits : Reading) (refused : Bool) (taken : Option (List ℕ)) (given : List ℕ)
      → SeatPlaying 0 nothing [] now first waits refused to.taken taken → SeatPlays (Err halt) 0 now [] new taken to'.taken
      → Consumes from.left from'.left given → length given ≤ SCRIPT_LIMIT + 1 → MayCome first [] from'.ended
      → within_limit given ≡ first.waiting → AnswersSent (end_of_halt halt) new from from' to to'
  out-by halt now first waits refused taken given way plays gave few comes within = halts-sent halt (λ own.
      let out : PlaysOn (Some halt) 0 nothing [] (way.statements ++ []) ⊥ new to.taken to'.taken =
      (seat-err refused halt 0 nothing now new [] way.statements [] ⊥ ⊥ ⊥ to.taken taken to'.taken (λ left. left) way.plays
      (plays way.plays.0.still way.plays.0.goes.waits)).0 in
      out-cut AnySent empty_row refl new own from from' to to' halt way.statements first waits given out tt way.reads gave few comes within)

  -- behind the end of the reading
  pub out-sent : (halt : Halt) (now : Sight) (waits : Reading) (refused : Bool) (left taken : Option (List ℕ)) (given : List ℕ)
      → (run : IsRunBy now waits refused from.left left to.taken taken) → SeatPlays (Err halt) 0 now [] new taken to'.taken
      → Consumes from.left from'.left given → length given ≤ SCRIPT_LIMIT + 1 → within_limit given ≡ run.given
      → AnswersSent (end_of_halt halt) new from from' to to'
  out-sent halt now waits refused left taken given run plays gave few within =
      out-by halt now (came run.given) waits refused taken given run.way plays gave few (λ e. cc) within

  -- at the last statements, behind the end of the input
  pub last-sent : (halt : Halt) (now : Sight) (waits waits' : Reading) (refused : Bool) (left taken : Option (List ℕ)) (piece : List ℕ)
      → IsRunBy now waits refused from.left left to.taken taken → Consumes left from'.left piece → piece ≡ [] → HasEnded from'
      → SeatPlaysWhole (Err halt) 0 now (finished waits) new waits' taken to'.taken → AnswersSent (end_of_halt halt) new from from' to to'
  last-sent halt now waits waits' refused left taken piece run gave nothing_came has_ended plays = halts-sent halt (λ own.
      let way = finished-by now run.given waits refused to.taken taken run.way in
      let reads = halted-by-way halt now new (finished (came run.given)) (finished waits) waits' refused to.taken taken to'.taken way
      plays in
      ended-cut AnySent empty_row refl new own from from' to to' halt reads.statements reads.behind run.given reads.on tt reads.reads
      reads.stays
      (rw (append-nil run.given) at (Consumes-trans from.left left from'.left run.given [] run.gave (rw nothing_came at gave)))
      (few-by now waits refused from.left left to.taken taken run) has_ended)

  -- behind the last statements
  pub rest-sent : (halt : Halt) (now mid : Sight) (waits waits' : Reading) (refused some : Bool) (left taken taken' : Option (List ℕ))
      (piece : List ℕ) → IsRunBy now waits refused from.left left to.taken taken → Consumes left from'.left piece → piece ≡ []
      → HasEnded from' → SeatPlaysWhole (Ok some) 0 now (finished waits) mid waits' taken taken'
      → SeatPlays (Err halt) 0 mid [] new taken' to'.taken → AnswersSent (end_of_halt halt) new from from' to to'
  rest-sent halt now mid waits waits' refused some left taken taken' piece run gave nothing_came has_ended whole plays =
      let few = few-by now waits refused from.left left to.taken taken run in
      out-by halt mid (finished (came run.given)) waits' (refused || some) taken' run.given
      (ended-by now mid waits waits' refused some from.left left to.taken taken taken' run whole) plays
      (rw (append-nil run.given) at (Consumes-trans from.left left from'.left run.given [] run.gave (rw nothing_came at gave)))
      (omega (arith, few))
      (λ e. (refl, has_ended.0)) (within_all run.given few)

-- The seat left what it waited for.

-- so what it told it tells still, where no entry came
sent-left : (end : RunEnd) (ended : Bool) (wanted given : List ℕ) (mid new : Sight) → mid.row.made ≡ made_by 0 mid.seen → Leaves 0 mid new
    → new.seen ≡ mid.seen → TellsSent end ended wanted given mid → TellsSent end ended wanted given new
sent-left end ended wanted given mid new made leaves seen sent = record {
  replies = sent.replies;
  tells = tells-lets 0 nothing mid new (statements_by end ended given) sent.replies made sent.tells leaves.0;
  own = subst (All (λ (entry : Entry). entry.seat ≡ 0)) (sym seen) sent.own;
  whole = λ ends. record {
    others = (sent.whole ends).others;
    rest = (sent.whole ends).rest;
    later = ap (λ list. list ++ leaves.0.more) (sent.whole ends).later ∙ leaves.1;
  };
  same = sent.same;
  history = λ ends. ap changes_of seen ∙ sent.history ends;
}

-- none did where all entries are the seat's
pub leaves-sent : (end : RunEnd) (mid new : Sight) (from from' : ReadingSide) (to to' : WritingSide) → WaitsFor mid → Leaves 0 mid new
    → AnswersSent end mid from from' to to' → AnswersSent end new from from' to to'
leaves-sent end mid new from from' to to' due leaves answers own =
    let none = none-came 0 mid.seen leaves.0.since (lets-made 0 mid new due.1.made leaves.0)
    (subst (All (λ (entry : Entry). entry.seat ≡ 0)) leaves.0.seen own) in
    let seen : new.seen ≡ mid.seen = leaves.0.seen ∙ ap (λ list. mid.seen ++ list) none ∙ append-nil mid.seen in
    let found = answers (subst (All (λ (entry : Entry). entry.seat ≡ 0)) seen own) in (
      found.0,
      unless-weaker end (TellsSent end from'.ended found.0.wanted found.0.given mid)
          (TellsSent end from'.ended found.0.wanted found.0.given new)
          (sent-left end from'.ended found.0.wanted found.0.given mid new due.1.made leaves seen) found.1,
    )
