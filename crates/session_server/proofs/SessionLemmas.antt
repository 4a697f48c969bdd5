-- A session, from what was read and written so far.
use Rattle.std.proofs.Common.{◌≡◌, ℕ, ◌+◌, ◌≤◌, Bool, List, [], ◌++◌, length, None, Option, Some, refl, sym, ap, subst, ◌∙◌, length-append, arith}
use Rattle.std.specs.Io.KnownBytes.{Consumes}
use Rattle.std.proofs.KnownBytes.{Consumes-nil, Consumes-trans}
use Rattle.board_lock.specs.Seats.{IsSameSeat, view_of}
use Rattle.board_lock.specs.declared.seat.BoardSeat.{BoardSeat}
use Rattle.script_reader.specs.Reading.{Reading, StaysFed, no_reading}
use Rattle.script_reader.specs.Script.{statements_of}
use Rattle.script_reader.specs.declared.reader.TheConstants.{SCRIPT_LIMIT}
use Rattle.script_reader.specs.declared.statement.Statement.{Statement}
use Rattle.core_state.specs.Fronts.{IsDue}
use Rattle.core_state.specs.Rows.{Sight}
use Rattle.core_state.specs.Sent.{Sent}
use Rattle.event_core.specs.CoreParts.{CoreParts}
use Rattle.script_run.specs.Answer.{HasNoStatement}
use Rattle.script_run.specs.Front.{LeavesToRead, PlaysOn, ReadsBetween}
use Rattle.script_run.specs.Pieces.{fed_with}
use Rattle.script_run.specs.SeatFront.{SeatReads}
use Rattle.script_run.specs.declared.halt.Halt.{Halt}
use Rattle.script_run.proofs.OnLemmas.{eases-none, eases-some, on-then, still-none}
use Rattle.script_run.proofs.RunLemmas.{came}
use Rattle.script_run.proofs.SeatFrontLemmas.{by-number, seat-none}
use Rattle.script_run.proofs.SharedReadLemmas.{reads-itself, reads-then}
use Rattle.script_run.proofs.SharedRunLemmas.{fed-reads}

-- these bytes were given, and the statements that are whole were sent by a seat and replied to
pub record IsServing (seat : ℕ) (old now : Sight) (waits : Reading) (left0 left taken0 taken : Option (List ℕ)) : Type 0 where
  pub given : List ℕ
  pub gave : Consumes left0 left given
  pub statements : List Statement
  pub reads : ReadsBetween (came given) statements waits
  pub stays : StaysFed (came given) waits
  pub within : waits.fed ≤ SCRIPT_LIMIT
  pub on : PlaysOn None seat old [] statements ⊥ now taken0 taken
  pub still : on.still ≡ []

-- the same where another call changed nothing of it
pub serving-apart : (seat : ℕ) (old now : Sight) (waits : Reading) (left0 left left' taken0 taken taken' : Option (List ℕ))
    → left' ≡ left → taken' ≡ taken → IsServing seat old now waits left0 left taken0 taken
    → IsServing seat old now waits left0 left' taken0 taken'
serving-apart seat old now waits left0 left left' taken0 taken taken' same same' run = rw (same, same') run

-- nothing was read by a seat that waits for nothing
pub starts-serving : (seat : ℕ) (sight : Sight) (waits : Reading) (left taken : Option (List ℕ)) → waits ≡ no_reading
    → IsDue seat sight [] → IsServing seat sight sight waits left left taken taken
starts-serving seat sight waits left taken is due =
    subst (λ reader. IsServing seat sight sight reader left left taken taken) (sym is) (record {
      given = [];
      gave = Consumes-nil left;
      statements = [];
      reads = reads-itself (came []);
      stays = (refl, refl);
      within = omega arith;
      on = (seat-none seat sight [] taken due).0;
      still = refl;
    })

-- a piece more was fed
pub fed-serving : (seat : ℕ) (old now : Sight) (waits waits' : Reading) (left0 left left' taken0 taken : Option (List ℕ)) (piece : List ℕ)
    → IsServing seat old now waits left0 left taken0 taken → Consumes left left' piece → waits' ≡ fed_with waits piece
    → waits'.fed ≤ SCRIPT_LIMIT → IsServing seat old now waits' left0 left' taken0 taken
fed-serving seat old now waits waits' left0 left left' taken0 taken piece run gave is within = record {
  given = run.given ++ piece;
  gave = Consumes-trans left0 left left' run.given piece run.gave gave;
  statements = run.statements;
  reads = subst (ReadsBetween (came (run.given ++ piece)) run.statements) (sym is) (fed-reads run.given piece waits run.statements run.reads);
  stays = (
    ap (λ (w : Reading). w.fed) is ∙ ap (λ n. n + length piece) run.stays.0 ∙ sym (length-append run.given piece),
    ap (λ (w : Reading). w.ended) is ∙ run.stays.1,
  );
  within = within;
  on = run.on;
  still = run.still;
}

-- What goes on behind it.

-- what was read by a seat of this number was read by a seat of the number that it had before
pub reads-by : (first now : BoardSeat CoreParts) (halted : Option Halt) (old new : Sight) (waits waits' : Reading)
    (taken taken' : Option (List ℕ)) → IsSameSeat first now → SeatReads halted (view_of now).number old [] waits new waits' taken taken'
    → SeatReads halted (view_of first).number old [] waits new waits' taken taken'
reads-by first now halted old new waits waits' taken taken' same reads =
    by-number (λ (number : ℕ). SeatReads halted number old [] waits new waits' taken taken') first now same reads

-- what goes on where nothing is waited for
at-still : (halted : Option Halt) (seat : ℕ) (now new : Sight) (still : List Sent) (statements : List Statement) (Left : Type 0)
    (taken taken' : Option (List ℕ)) → still ≡ [] → PlaysOn halted seat now [] statements Left new taken taken'
    → PlaysOn halted seat now still statements Left new taken taken'
at-still halted seat now new still statements Left taken taken' none on =
    subst (λ due. PlaysOn halted seat now due statements Left new taken taken') (sym none) on

-- all was replied to, and nothing is waited for
pub serving-ok : (seat : ℕ) (old now new : Sight) (waits other waits' : Reading) (left0 left taken0 taken taken' : Option (List ℕ))
    → (run : IsServing seat old now waits left0 left taken0 taken) → (reads : SeatReads None seat now [] other new waits' taken taken')
    → new.row.pending ≡ []
    → (on : PlaysOn None seat old [] (run.statements ++ reads.statements) ⊥ new taken0 taken') × (on.still ≡ [])
serving-ok seat old now new waits other waits' left0 left taken0 taken taken' run reads idle =
    let on : PlaysOn None seat old [] (run.statements ++ reads.statements) ⊥ new taken0 taken' =
    on-then None seat old now new [] run.statements reads.statements ⊥ (LeavesToRead reads.behind) ⊥ taken0 taken taken'
    (eases-none (LeavesToRead reads.behind) ⊥) run.on
    (at-still None seat now new run.on.still reads.statements (LeavesToRead reads.behind) taken taken' run.still reads.on) in
    (on, still-none new.seen on.still on.goes.waits.given (sym on.goes.waits.pending ∙ idle))

-- the replies halted
pub serving-err : (halt : Halt) (seat : ℕ) (old now new : Sight) (waits other waits' : Reading)
    (left0 left taken0 taken taken' : Option (List ℕ)) → (run : IsServing seat old now waits left0 left taken0 taken)
    → (reads : SeatReads (Some halt) seat now [] other new waits' taken taken')
    → PlaysOn (Some halt) seat old [] (run.statements ++ reads.statements) (LeavesToRead reads.behind) new taken0 taken'
serving-err halt seat old now new waits other waits' left0 left taken0 taken taken' run reads =
    on-then (Some halt) seat old now new [] run.statements reads.statements ⊥ (LeavesToRead reads.behind) (LeavesToRead reads.behind)
    taken0 taken taken' (eases-some halt (LeavesToRead reads.behind) (LeavesToRead reads.behind) (λ some. some)) run.on
    (at-still (Some halt) seat now new run.on.still reads.statements (LeavesToRead reads.behind) taken taken' run.still reads.on)

-- every whole statement was replied to
pub replied-serving : (seat : ℕ) (old now new : Sight) (waits waits' : Reading) (left0 left taken0 taken taken' : Option (List ℕ))
    → IsServing seat old now waits left0 left taken0 taken → SeatReads None seat now [] waits new waits' taken taken'
    → new.row.pending ≡ [] → IsServing seat old new waits' left0 left taken0 taken'
replied-serving seat old now new waits waits' left0 left taken0 taken taken' run reads idle =
    let plays = serving-ok seat old now new waits waits waits' left0 left taken0 taken taken' run reads idle in
    subst (λ reader. IsServing seat old new reader left0 left taken0 taken') reads.all.0 (record {
      given = run.given;
      gave = run.gave;
      statements = run.statements ++ reads.statements;
      reads = reads-then (came run.given) waits reads.behind run.statements reads.statements run.reads run.stays reads.reads;
      stays = (reads.stays.0 ∙ run.stays.0, reads.stays.1 ∙ run.stays.1);
      within = subst (λ fed. fed ≤ SCRIPT_LIMIT) (sym reads.stays.0) run.within;
      on = plays.0;
      still = plays.1;
    })

-- What is whole, and the bytes within the limit.

-- nothing that was not read is a statement
pub starts-without : (waits : Reading) → waits ≡ no_reading → HasNoStatement waits
starts-without waits is = rw is refl

-- none is left, by whether the input has ended
pub none-left : (ended : Bool) (waits : Reading) → HasNoStatement waits → waits.ended ≡ ended → statements_of ended waits.waiting ≡ []
none-left ended waits none same = subst (λ test. statements_of test waits.waiting ≡ []) same none

-- as many bytes were given as the limit at most
pub few-given : (seat : ℕ) (old now : Sight) (waits : Reading) (left0 left taken0 taken : Option (List ℕ))
    → (run : IsServing seat old now waits left0 left taken0 taken) → length run.given ≤ SCRIPT_LIMIT
few-given seat old now waits left0 left taken0 taken run = subst (λ n. n ≤ SCRIPT_LIMIT) run.stays.0 run.within
