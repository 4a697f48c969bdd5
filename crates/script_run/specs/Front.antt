-- What a seat that gives statements to a core leaves in the core, in a reader and at a sink.
use Rattle.std.specs.Prelude.{◌≡◌, ◌≢◌, ◌⊎◌, ℕ, ◌+◌, Bool, true, List, [], ◌∷◌, ◌++◌, All, filter_map, Option, Some, None, Result, Ok, Err, IfOk, OnOk}
use Rattle.std.specs.List.{list_any}
use Rattle.std.specs.Io.KnownBytes.{Appends}
use Rattle.star_io.specs.Link.{WritingSide}
use Rattle.script_reader.specs.Reading.{MayCome, Reading, StaysFed}
use Rattle.script_reader.specs.Script.{statements_of}
use Rattle.script_reader.specs.declared.statement.Statement.{Statement}
use Rattle.reply_text.specs.Text.{text_of_all}
use Rattle.reply_text.specs.declared.reply.Reply.{Reply}
use Rattle.core_state.specs.Fronts.{Goes, IsDue, Passes, SubmitsRow}
use Rattle.core_state.specs.Rows.{Sight, sight_of}
use Rattle.core_state.specs.Sent.{Given, Lost, Sent, statements_in}
use Rattle.core_state.specs.State.{State}
use Rattle.core_state.specs.Steps.{Done, MayStepAll, Replying, Step, Wanting, after_steps}
use Rattle.core_state.specs.Submitting.{next_ready, seat_at}
use Rattle.core_state.specs.declared.event.Event.TheVariants.{Abandon, Submit}
use Rattle.event_core.specs.Chosen.{AreIdle}
use Rattle.event_core.specs.Replies.{first_open}
use Rattle.event_core.specs.Seen.{state_of}
use Rattle.script_run.specs.Answer.{CountsHalt, HasNoStatement}
use Rattle.script_run.specs.Answered.{AreAnswered, StayAnswered}
use Rattle.script_run.specs.Counted.{CountsOne, FrontParts, GoesRound, HasFreeSlot, LapsOn}
use Rattle.script_run.specs.Run.{IsFront, IsProperFront, is_refusal}
use Rattle.script_run.specs.declared.halt.Halt.{Halt}
use Rattle.script_run.specs.declared.halt.Halt.TheVariants.{WriteFault, NoMemory}

-- a step that a run makes: what is submitted and what is taken is of seat 0,
-- and no query is abandoned
abbrev pub IsOfRun : Step → Type 0
IsOfRun (Done (Submit seat statement)) = seat ≡ 0
IsOfRun (Done (Abandon query)) = ⊥
IsOfRun (Done event) = Unit {0}
IsOfRun (Wanting event spoiled) = Unit {0}
IsOfRun (Replying seat) = seat ≡ 0

-- steps of a run lead from one core to another
pub record IsRun (old new : State) : Type 0 where
  pub steps : List Step
  pub may : MayStepAll old steps
  pub each : All IsOfRun steps
  pub is : new ≡ after_steps steps old

-- the statement that is submitted at a step, if one is
abbrev pub submitted_at : Step → Option Statement
submitted_at (Done (Submit seat statement)) = Some statement
submitted_at other = None

-- the statements that are submitted along steps, in order
abbrev pub submitted_in : List Step → List Statement
submitted_in steps = filter_map submitted_at steps

-- steps of a run by which these statements are submitted, in this order, and no others
pub record SubmitsAll (statements : List Statement) (old new : State) : Type 0 where
  pub run : IsRun old new
  pub are : submitted_in run.steps ≡ statements

-- queries came to their end: the seats and the history stay, what was answered stays so, the scan
-- went round once at most, and no statement was submitted
pub record Finishes (old new : State) : Type 0 where
  pub passes : Passes (sight_of old 0) (sight_of new 0)
  pub stay : StayAnswered old.lives new.lives
  pub round : GoesRound old new
  pub run : SubmitsAll [] old new

-- the replies that may be taken were taken: none is ready, and where none that the front waited for
-- was open it waits for nothing
pub record TookAllReady (old new : State) : Type 0 where
  pub none : next_ready new 0 ≡ None
  pub all : first_open old.lives (seat_at old 0) ≡ None → (seat_at new 0).pending ≡ []

-- a front that has its core by itself went on by steps of a run: a statement may be given to it,
-- unless it halted, and one write failed where that is why it did, and else none
pub record RunsOn (result : Result Bool Halt) (old new : FrontParts)
    (to to' : WritingSide) : Type 0 where
  pub run : IsRun (state_of old.core) (state_of new.core)
  pub room : OnOk result (HasFreeSlot new)
  pub faults : CountsHalt result to to'

-- a statement was given to a core as that of seat 0
pub record GivesStatement (statement : Statement) (old new : State) : Type 0 where
  pub submits : SubmitsRow 0 (old.numbers.statement + 1) statement (sight_of old 0) (sight_of new 0)
  pub stay : StayAnswered old.lives new.lives
  pub run : SubmitsAll (statement ∷ []) old new
  pub idle : AreIdle old → AreIdle new
  pub counts : CountsOne statement old new

-- the statement that was sent, if the core has it
abbrev pub given_by : Sent → Option Statement
given_by (Lost statement) = None
given_by (Given number point statement) = Some statement

-- those that the core has
abbrev pub givens_in : List Sent → List Statement
givens_in sent = filter_map given_by sent

-- why the replies halted, if they did
abbrev pub halt_of : {A : Type 0} → Result A Halt → Option Halt
halt_of (Ok x) = None
halt_of (Err halt) = Some halt

-- where the replies halt: at a write that failed not all of their text was written; without memory
-- a front of it was, and not all of it, or something is left to do
abbrev pub HaltsAt : Halt → (written : List ℕ) → List Reply → (Left : Type 0) → Type 0
HaltsAt WriteFault written replies Left = IsProperFront written (text_of_all replies)
HaltsAt NoMemory written replies Left =
    IsFront written (text_of_all replies) × (IsProperFront written (text_of_all replies) ⊎ Left)

-- every statement was sent and all of the text was written, or the replies halted
abbrev pub EndsSo : Option Halt → (rest : List Statement) → (written : List ℕ) → List Reply
    → (Left : Type 0) → Type 0
EndsSo None rest written replies Left = (rest ≡ []) × (written ≡ text_of_all replies)
EndsSo (Some halt) rest written replies Left = HaltsAt halt written replies Left

-- a seat that waited for the replies to `due` was given these statements: it sent the first of
-- them, and the replies that it took were written; where they halted for want of memory it still
-- waits for some, did not send all, or else something is left
pub record PlaysOn (halted : Option Halt) (seat : ℕ) (old : Sight) (due : List Sent)
    (statements : List Statement) (Left : Type 0)
    (new : Sight) (taken taken' : Option (List ℕ)) : Type 0 where
  pub sent : List Sent
  pub said : List Sent
  pub still : List Sent
  pub replies : List Reply
  pub rest : List Statement
  pub are : statements ≡ statements_in sent ++ rest
  pub goes : Goes seat old due new still sent said replies
  pub written : List ℕ
  pub took : Appends taken taken' written
  pub ends : EndsSo halted rest written replies ((still ≢ []) ⊎ ((rest ≢ []) ⊎ Left))

-- the same of seat 0 where nobody else has the core meanwhile: the statements that were sent are
-- those that were submitted, a query that was answered stays so, and each query that was replied to
-- is answered, unless the reply is `memory`
pub record PlaysIn (halted : Option Halt) (old : State) (due : List Sent)
    (statements : List Statement) (Left : Type 0)
    (new : State) (taken taken' : Option (List ℕ)) : Type 0 where
  pub on : PlaysOn halted 0 (sight_of old 0) due statements Left (sight_of new 0) taken taken'
  pub run : SubmitsAll (givens_in on.sent) old new
  pub stay : StayAnswered old.lives new.lives
  pub answered : AreAnswered new.lives new.entries on.said on.replies

-- the same, and whether some reply that was written is a refusal
abbrev pub PlaysBy : Result Bool Halt → (old : State) → (due : List Sent) → List Statement
    → (Left : Type 0) → (new : State)
    → (taken taken' : Option (List ℕ)) → Type 0
PlaysBy result old due statements Left new taken taken' =
    (plays : PlaysIn (halt_of result) old due statements Left new taken taken')
    × IfOk result (λ refused. refused ≡ list_any is_refusal plays.on.replies)

-- so it is whatever seat 0 waits for
abbrev pub Plays : Result Bool Halt → (old : State) → List Statement → (new : State)
    → (taken taken' : Option (List ℕ)) → Type 0
Plays result old statements new taken taken' = (due : List Sent) → IsDue 0 (sight_of old 0) due
    → PlaysBy result old due statements ⊥ new taken taken'

-- and the scan went no further than the replies tell
abbrev pub PlaysCounted : Result Bool Halt → (old : State) → List Statement → (new : State)
    → (taken taken' : Option (List ℕ)) → Type 0
PlaysCounted result old statements new taken taken' =
    (due : List Sent) → IsDue 0 (sight_of old 0) due
    → (plays : PlaysBy result old due statements ⊥ new taken taken')
    × OnOk result (LapsOn old new plays.0.on.replies)

-- the statements between two readers, whatever bytes come
abbrev pub ReadsBetween : Reading → List Statement → Reading → Type 0
ReadsBetween waits statements waits' = (more : List ℕ) (last : Bool) → MayCome waits more last
    → statements_of last (waits.waiting ++ more)
    ≡ statements ++ statements_of last (waits'.waiting ++ more)

-- a statement is left to be read, if the input has ended
abbrev pub LeavesToRead : Reading → Type 0
LeavesToRead waits = waits.ended ≡ true → statements_of true waits.waiting ≢ []

-- what holds where nothing halted
abbrev pub UnlessHalted : Option Halt → Type 0 → Type 0
UnlessHalted None Holds = Holds
UnlessHalted (Some halt) Holds = Unit {0}

-- the statements that are whole were read and given to a core: all of them, or those
-- before the replies halted
pub record ReadsOn (halted : Option Halt) (old : State) (due : List Sent) (waits : Reading)
    (new : State) (waits' : Reading)
    (taken taken' : Option (List ℕ)) : Type 0 where
  pub statements : List Statement
  pub behind : Reading
  pub reads : ReadsBetween waits statements behind
  pub stays : StaysFed waits behind
  pub plays : PlaysIn halted old due statements (LeavesToRead behind) new taken taken'
  pub all : UnlessHalted halted ((behind ≡ waits') × HasNoStatement waits')

-- so it is whatever seat 0 waits for; whether some reply is a refusal, and how far the scan went
abbrev pub PlaysWhole : Result Bool Halt → (old : State) → Reading → (new : State) → Reading
    → (taken taken' : Option (List ℕ)) → Type 0
PlaysWhole result old waits new waits' taken taken' =
    (due : List Sent) → IsDue 0 (sight_of old 0) due
    → (reads : ReadsOn (halt_of result) old due waits new waits' taken taken')
    × IfOk result (λ refused.
    (refused ≡ list_any is_refusal reads.plays.on.replies) × LapsOn old new reads.plays.on.replies)
