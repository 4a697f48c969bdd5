-- Many statements that a seat sends in one turn, one behind another, and what was read of a run.
use Rattle.script_run.proofs.Words.{◌++◌, ◌<◌, ◌∙◌, ◌∷◌, ◌≡◌, ◌≢◌, [], All-append, All-cons, All-nil, ap, append-nil, append_assoc, arith, false, length, length-append, List, map-append, None, Ok, Option, Reading, refl, Some, Statement, statements_of, StaysFed, subst, sym, TakesFirst, true, WantsMemory, ℕ}
use Rattle.core_state.specs.Fronts.{Goes}
use Rattle.core_state.specs.Rows.{Sight}
use Rattle.core_state.specs.Sent.{IsGiven, statement_in, statements_in}
use Rattle.core_state.proofs.FrontLemmas.{goes-then}
use Rattle.script_reader.specs.Reading.{AnswersNext}
use Rattle.script_reader.specs.declared.reader.NextStatement.{NextStatement}
use Rattle.script_reader.specs.declared.reader.NextStatement.TheVariants.{Got}
use Rattle.script_run.specs.Front.{ReadsBetween}
use Rattle.script_run.specs.SeatFront.{SeatPlays}
use Rattle.script_run.specs.SeatRun.{ReadsNext, StopsReading, alone_at, alone_in, behind_at}
use Rattle.script_run.specs.SeatTurns.{SitsStill, SendsOne, SendsAll}
use Rattle.script_run.specs.declared.seat_run.Behind.{Behind}
use Rattle.script_run.specs.declared.seat_run.Behind.TheVariants.{More, NoMemory as NoneLeft, Nothing}
use Rattle.script_run.specs.declared.seat_run.StatementRunEnd.{StatementRunEnd}
use Rattle.script_run.specs.declared.seat_run.StatementRunEnd.TheVariants as ended
use Rattle.script_run.proofs.SeatFrontLemmas.{seat-sends}
use Rattle.script_run.proofs.SharedReadLemmas.{reads-all, reads-done, reads-first, reads-itself, reads-then}
use Rattle.script_run.proofs.SharedWholeLemmas.{statements_left}

-- What was sent.

-- nothing yet
pub many-none : (seat : ℕ) (old new : Sight) → SitsStill seat old new → SendsAll seat [] old new
many-none seat old new stays due waits =
    ([], refl, All-nil IsGiven, subst (λ still. Goes seat old due new still [] [] []) (sym (append-nil due)) (stays due waits))

-- some, and behind them others
many-then : (seat : ℕ) (statements others : List Statement) (old between new : Sight) → SendsAll seat statements old between
    → SendsAll seat others between new → SendsAll seat (statements ++ others) old new
many-then seat statements others old between new first second due waits =
    let before = first due waits in
    let behind = second (due ++ before.0) before.3.waits in (
      before.0 ++ behind.0,
      map-append statement_in before.0 behind.0 ∙ ap (λ list. list ++ statements_in behind.0) before.1
          ∙ ap (λ list. statements ++ list) behind.1,
      All-append IsGiven before.0 behind.0 before.2 behind.2,
      subst (λ still. Goes seat old due new still (before.0 ++ behind.0) [] []) (append_assoc due before.0 behind.0)
          (goes-then seat old between new due (due ++ before.0) ((due ++ before.0) ++ behind.0) before.0 behind.0 [] [] [] [] before.3
          behind.3),
    )

-- one
many-one : (seat : ℕ) (statement : Statement) (old new : Sight) → SendsOne seat statement old new
    → SendsAll seat (statement ∷ []) old new
many-one seat statement old new submitted due waits =
    let sent = submitted due waits in (sent.0 ∷ [], ap (λ one. one ∷ []) sent.1, All-cons IsGiven sent.0 [] sent.2 (All-nil IsGiven), sent.3)

-- one more
pub many-more : (seat : ℕ) (statements : List Statement) (statement : Statement) (old between new : Sight)
    → SendsAll seat statements old between → SendsOne seat statement between new
    → SendsAll seat (statements ++ statement ∷ []) old new
many-more seat statements statement old between new first second =
    many-then seat statements (statement ∷ []) old between new first (many-one seat statement between new second)

-- what others did before and behind
pub many-behind : (seat : ℕ) (statements : List Statement) (old between new : Sight) → SitsStill seat old between
    → SendsAll seat statements between new → SendsAll seat statements old new
many-behind seat statements old between new stays second =
    many-then seat [] statements old between new (many-none seat old between stays) second

pub many-stays : (seat : ℕ) (statements : List Statement) (old between new : Sight) → SendsAll seat statements old between
    → SitsStill seat between new → SendsAll seat statements old new
many-stays seat statements old between new first stays =
    subst (λ list. SendsAll seat list old new) (append-nil statements)
    (many-then seat statements [] old between new first (many-none seat between new stays))

-- no reply was taken meanwhile
pub seat-sent-all : (seat : ℕ) (statements : List Statement) (old new : Sight) (taken : Option (List ℕ))
    → SendsAll seat statements old new → SeatPlays (Ok false) seat old statements new taken taken
seat-sent-all seat statements old new taken submitted due waits =
    let sent = submitted due waits in
    seat-sends seat old new due (due ++ sent.0) sent.0 statements taken (sym sent.1 ∙ sym (append-nil (statements_in sent.0))) sent.3

-- What was read.

-- a statement that was put to those of a run, or is the one by itself
pub reads-one : (ended : Option StatementRunEnd) (statement : Statement) (waits waits' : Reading) (before after : List Statement)
    → TakesFirst waits waits' statement → after ++ alone_at ended ≡ before ++ statement ∷ [] → behind_at ended ≡ More
    → ReadsNext ended waits before waits' after
reads-one ended statement waits waits' before after first are more = record {
  read = statement ∷ [];
  are = are;
  reads = reads-first waits waits' statement first;
  stops = subst (λ behind. StopsReading behind (statement ∷ []) waits') (sym more) (λ none. cc);
}

-- none is whole
pub reads-nothing : (next : NextStatement) (waits waits' : Reading) (before : List Statement) → ((statement : Statement) → next ≢ Got statement)
    → AnswersNext waits waits' next → StaysFed waits waits' → ReadsNext (Some ended.Last) waits before waits' before
reads-nothing next waits waits' before never answers stays =
    let done = reads-done waits waits' next never answers stays in record {
      read = [];
      are = refl;
      reads = done.0;
      stops = done.1;
    }

-- for one there was no memory
pub reads-wanting : (waits waits' : Reading) (before : List Statement) → WantsMemory waits waits' → StaysFed waits waits'
    → ReadsNext (Some ended.NoMemory) waits before waits' before
reads-wanting waits waits' before wants stays =
    let same : ReadsBetween waits [] waits' = λ more last comes. sym (wants.1 more last comes) in record {
      read = [];
      are = refl;
      reads = same;
      stops = λ ends none. wants.0 (sym stays.1 ∙ ends) (reads-all waits waits' [] true same (λ e. (refl, refl)) ∙ none);
    }

-- what is known of where reading stopped is known of it behind what was read before
stops-behind : (behind : Behind) (before read : List Statement) (waits : Reading) → StopsReading behind read waits
    → StopsReading behind (before ++ read) waits
stops-behind More [] read waits some = some
stops-behind More (one ∷ before) read waits some = λ none. cc
stops-behind Nothing before read waits none = none
stops-behind NoneLeft before read waits left = left

-- one statement behind others
pub run-next : (ended : Option StatementRunEnd) (first waits waits' : Reading) (before after : List Statement) → ReadsBetween first before waits
    → StaysFed first waits → ReadsNext ended waits before waits' after
    → ReadsBetween first (after ++ alone_at ended) waits' × StopsReading (behind_at ended) (after ++ alone_at ended) waits'
run-next ended first waits waits' before after reads stays next = (
  subst (λ list. ReadsBetween first list waits') (sym next.are) (reads-then first waits waits' before next.read reads stays next.reads),
  subst (λ list. StopsReading (behind_at ended) list waits') (sym next.are)
      (stops-behind (behind_at ended) before next.read waits' next.stops),
)

-- where the run goes on
pub run-goes : (first waits waits' : Reading) (before after : List Statement) → ReadsBetween first before waits
    → StaysFed first waits → ReadsNext None waits before waits' after → ReadsBetween first after waits'
run-goes first waits waits' before after reads stays next =
    subst (λ list. ReadsBetween first list waits') (append-nil after) (run-next None first waits waits' before after reads stays next).0

-- fewer statements are left where some were read
pub reads-fewer : (waits waits' : Reading) (statements : List Statement) → ReadsBetween waits statements waits' → StaysFed waits waits'
    → statements ≢ [] → statements_left waits' < statements_left waits
reads-fewer waits waits' [] reads stays some = absurd (some refl)
reads-fewer waits waits' (one ∷ statements) reads stays some =
    let all = ap length (reads [] waits.ended (λ e. (refl, e))) in
    let long = length-append (one ∷ statements) (statements_of waits.ended (waits'.waiting ++ [])) in
    subst (λ ended. length (statements_of ended (waits'.waiting ++ [])) < statements_left waits) (sym stays.1) (omega (arith, all, long))

pub run-fewer : (waits waits' : Reading) (before after : List Statement) → ReadsNext None waits before waits' after
    → StaysFed waits waits' → statements_left waits' < statements_left waits
run-fewer waits waits' before after next stays = reads-fewer waits waits' next.read next.reads stays next.stops

-- nothing was read yet
pub run-starts : (waits : Reading) (statements : List Statement) → statements ≡ [] → ReadsBetween waits statements waits
run-starts waits statements none = subst (λ list. ReadsBetween waits list waits) (sym none) (reads-itself waits)

-- Of a run.

-- none is by itself
pub not-alone : (plain : List Statement) (end : StatementRunEnd) → ((statement : Statement) → end ≢ ended.Alone statement) → plain ++ alone_in end ≡ plain
not-alone plain (ended.Alone statement) never = absurd (never statement refl)
not-alone plain ended.Full never = append-nil plain
not-alone plain ended.Last never = append-nil plain
not-alone plain ended.NoMemory never = append-nil plain
