-- What a run in which queries share the scan of a core writes, and what the core tells of it.
use Rattle.std.specs.Prelude.{◌≡◌, ℕ, ◌+◌, ◌*◌, ◌≤◌, Bool, true, false, List, [], ◌++◌, All, Option, Some, None, IfSome}
use Rattle.star_io.specs.Link.{ReadingSide, WritingSide}
use Rattle.star_io.specs.declared.run_end.RunEnd.{RunEnd}
use Rattle.star_io.specs.declared.run_end.RunEnd.TheVariants.{ReadFault, WriteFault, NoMemory, ScriptLimit}
use Rattle.script_reader.specs.Script.{statements_of}
use Rattle.script_reader.specs.declared.statement.Statement.{Statement}
use Rattle.reply_text.specs.declared.reply.Reply.{Reply}
use Rattle.star_store.specs.Script.{history_of, replies_of}
use Rattle.core_state.specs.Rows.{Sight, empty_row, sight_of}
use Rattle.core_state.specs.Settings.{AreWithin}
use Rattle.core_state.specs.State.{State}
use Rattle.core_state.specs.Tables.{changes_of, versions_in}
use Rattle.event_core.specs.CoreParts.{CoreParts}
use Rattle.event_core.specs.Seen.{state_of}
use Rattle.core_state.specs.Sound.{empty_core}
use Rattle.core_state.specs.declared.settings.RunSettings.{RunSettings}
use Rattle.script_run.specs.Front.{SubmitsAll, givens_in}
use Rattle.script_run.specs.Laps.{laps_of}
use Rattle.script_run.specs.Told.{TellsScript}
use Rattle.script_run.specs.Run.{AnswersScript, script_replies, within_limit}
use Rattle.script_run.specs.Seat.{IsAllReplied, TellsSeat}

-- the settings of a run: they are within their bounds, and the front and each worker have a seat
pub record AreSettingsOfRun (settings : RunSettings) : Type 0 where
  pub within : AreWithin settings
  pub seats : settings.seats ≡ settings.workers + 1

-- a script as far as it came, and whether its input has ended
pub record CutScript : Type 0 where
  pub ended : Bool
  pub script : List ℕ

-- what a core tells of, by the end of a run and the bytes that were read: all of the script,
-- or what came of it before a read failed or the limit was passed; nothing where a write
-- failed or no memory was left
abbrev pub cut_of : RunEnd → (given : List ℕ) → Option CutScript
cut_of ReadFault given = Some (record { ended = false; script = given })
cut_of ScriptLimit given = Some (record { ended = false; script = within_limit given })
cut_of WriteFault given = None
cut_of NoMemory given = None
cut_of other given = Some (record { ended = true; script = given })

-- the scan of a core of so many slots went no further than as many laps as the
-- replies to a script take
abbrev pub SharesLaps : (wanted : List ℕ) → CutScript → (slots : ℕ) → State → Type 0
SharesLaps wanted cut slots core =
    core.scan.cut ≤ versions_in core * laps_of slots (script_replies wanted cut.ended cut.script)

-- what a core of so many slots tells of a script that it ran, where memory was wanted for
-- the statements at some places: its history and its queries are the script's, and its scan
-- went no further than that
abbrev pub TellsOf : (wanted : List ℕ) → CutScript → (slots : ℕ) → State → Type 0
TellsOf wanted cut slots core =
    TellsScript wanted (statements_of cut.ended cut.script) core × SharesLaps wanted cut slots core

-- what a core of so many slots tells by the end of the run
abbrev pub TellsRun : RunEnd → (wanted given : List ℕ) → (slots : ℕ) → State → Type 0
TellsRun end wanted given slots core =
    IfSome (cut_of end given) (λ cut. TellsOf wanted cut slots core)

-- the statements of a script as far as a run came, by its end: all of them, those that
-- were whole before a read failed or within the limit, and where the replies halted,
-- those that came until then
abbrev pub statements_by : RunEnd → (ended : Bool) → (given : List ℕ) → List Statement
statements_by ReadFault ended given = statements_of false given
statements_by WriteFault ended given = statements_of ended (within_limit given)
statements_by NoMemory ended given = statements_of ended (within_limit given)
statements_by ScriptLimit ended given = statements_of false (within_limit given)
statements_by other ended given = statements_of true given

-- every whole statement was replied to
abbrev pub EndsWhole : RunEnd → Type 0
EndsWhole WriteFault = ⊥
EndsWhole NoMemory = ⊥
EndsWhole other = Unit {0}

-- what a seat sees of a core to which nothing was given
abbrev pub nothing : Sight
nothing = record { row = empty_row; seen = [] }

-- what is told of the statements of a run by what its seat 0 sees: what it sent, in the order
-- of the script, and took the replies to, and that every entry is its own. All of it where all
-- replies were written, and these are then the replies to the script, and the history is the
-- one that the script makes
pub record TellsSent (end : RunEnd) (ended : Bool) (wanted given : List ℕ)
    (sight : Sight) : Type 0 where
  pub replies : List Reply
  pub tells : TellsSeat 0 nothing sight (statements_by end ended given) replies
  pub own : All (λ entry. entry.seat ≡ 0) sight.seen
  pub whole : EndsWhole end → IsAllReplied tells
  pub same : EndsWhole end → replies ≡ replies_of wanted (statements_by end ended given)
  pub history : EndsWhole end
      → changes_of sight.seen ≡ history_of wanted (statements_by end ended given)

-- what a core of these settings tells of them; where nobody else had the core, that they were
-- submitted to a core that was empty, and no others
pub record TellsFront (Alone : Type 0) (settings : RunSettings) (end : RunEnd) (ended : Bool)
    (wanted given : List ℕ)
    (core : State) : Type 0 where
  pub sent : TellsSent end ended wanted given (sight_of core 0)
  pub submits : Alone
      → SubmitsAll (givens_in (sent.tells.said ++ sent.tells.others)) (empty_core settings) core

-- unless no memory was left for the run
abbrev pub UnlessWanting : RunEnd → Type 0 → Type 0
UnlessWanting NoMemory Holds = Unit {0}
UnlessWanting other Holds = Holds

-- what a core of these settings tells of them, unless no memory was left for the
-- run, which has no core then
abbrev pub TellsGiven : (Alone : Type 0) → RunSettings → RunEnd → (ended : Bool)
    → (wanted given : List ℕ) → State → Type 0
TellsGiven Alone settings end ended wanted given core =
    UnlessWanting end (TellsFront Alone settings end ended wanted given core)

-- a run that had a core of these settings by itself answered a script, and the core tells of the
-- same script, and of the statements that were given to it
abbrev pub AnswersBy : (settings : RunSettings) → State → (end : RunEnd)
    → (from from' : ReadingSide) → (to to' : WritingSide) → Type 0
AnswersBy settings core end from from' to to' = (answers : AnswersScript end from from' to to')
    × TellsRun end answers.wanted answers.given settings.slots core
    × TellsGiven (Unit {0}) settings end from'.ended answers.wanted answers.given core

-- a run answered a script, and the core that is handed back, if there is one, tells of the
-- statements that were given to it; `Alone` is what is known where nobody else had the core, which
-- then tells of the same script
abbrev pub AnswersShared : (Alone : Type 0) → (settings : RunSettings) → Option CoreParts
    → (end : RunEnd) → (from from' : ReadingSide)
    → (to to' : WritingSide) → Type 0
AnswersShared Alone settings core end from from' to to' =
    (answers : AnswersScript end from from' to to')
    × IfSome core (λ parts.
    (Alone → TellsRun end answers.wanted answers.given settings.slots (state_of parts))
    × TellsGiven Alone settings end from'.ended answers.wanted answers.given (state_of parts))

-- a run over a board answered a script, by what its seat sees, where all entries
-- that it has seen are its own
abbrev pub AnswersSent : (end : RunEnd) → (sight : Sight) → (from from' : ReadingSide)
    → (to to' : WritingSide) → Type 0
AnswersSent end sight from from' to to' =
    All (λ entry. entry.seat ≡ 0) sight.seen → (answers : AnswersScript end from from' to to')
    × UnlessWanting end (TellsSent end from'.ended answers.wanted answers.given sight)
