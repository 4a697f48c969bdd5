-- What a run of a script writes, and why it ends.
use Rattle.std.specs.Prelude.{◌≡◌, ℕ, ◌+◌, ◌<◌, ◌≤◌, ◌⊎◌, Bool, true, false, List, ◌++◌, length, take}
use Rattle.std.specs.List.{list_any}
use Rattle.std.specs.Io.KnownBytes.{Appends, Consumes, IsAtEnd}
use Rattle.star_io.specs.Faults.{FailedOnce, FailedOnceAtMost}
use Rattle.star_io.specs.Link.{ReadingSide, WritingSide}
use Rattle.star_io.specs.declared.run_end.RunEnd.{RunEnd}
use Rattle.star_io.specs.declared.run_end.RunEnd.TheVariants.{Clean, SomeRefused, ReadFault, WriteFault, NoMemory, ScriptLimit}
use Rattle.script_reader.specs.Script.{statements_of}
use Rattle.script_reader.specs.declared.reader.TheConstants.{SCRIPT_LIMIT}
use Rattle.reply_text.specs.Text.{text_of_all}
use Rattle.reply_text.specs.declared.reply.Reply.{Reply}
use Rattle.reply_text.specs.declared.reply.Reply.TheVariants.{Memory, Refused}
use Rattle.star_store.specs.Script.{replies_of}

-- the bytes of a script within the limit
abbrev pub within_limit : List ℕ → List ℕ
within_limit given = take SCRIPT_LIMIT given

-- the replies to a script, whose input has ended or not, where memory was wanted for the
-- statements at these places
abbrev pub script_replies : (wanted : List ℕ) → (ended : Bool) → List ℕ → List Reply
script_replies wanted ended script = replies_of wanted (statements_of ended script)

-- their text
abbrev pub script_text : (wanted : List ℕ) → (ended : Bool) → List ℕ → List ℕ
script_text wanted ended script = text_of_all (script_replies wanted ended script)

-- the reply is a refusal, or tells that memory was wanted
abbrev pub is_refusal : Reply → Bool
is_refusal (Refused reason) = true
is_refusal Memory = true
is_refusal reply = false

-- some reply is one of these
abbrev pub some_refused : (wanted : List ℕ) → (ended : Bool) → List ℕ → Bool
some_refused wanted ended script = list_any is_refusal (script_replies wanted ended script)

-- the bytes begin with these
abbrev pub IsFront : List ℕ → List ℕ → Type 0
IsFront front bytes = (rest : List ℕ) × (bytes ≡ front ++ rest)

-- the bytes begin with these, and go on
abbrev pub IsProperFront : List ℕ → List ℕ → Type 0
IsProperFront front bytes = (rest : List ℕ) × (0 < length rest) × (bytes ≡ front ++ rest)

-- the source has ended, and no known byte is left
abbrev pub HasEnded : ReadingSide → Type 0
HasEnded source = (source.ended ≡ true) × IsAtEnd source.left

-- what was written, by the text of all replies to bytes whose input has ended or not, by the bytes
-- that the source gave, and by what it tells then: at `Clean` and `SomeRefused` all replies to
-- bytes whose input has ended, at a read fault or the limit all replies to those whose input has
-- not, at a write fault a proper front of the replies, and where no memory was left a front
abbrev pub Writes : (text : (ended : Bool) → List ℕ → List ℕ) → RunEnd → ReadingSide
    → (given written : List ℕ) → Type 0
Writes text ReadFault source given written = written ≡ text false given
Writes text ScriptLimit source given written = written ≡ text false (within_limit given)
Writes text WriteFault source given written =
    IsProperFront written (text source.ended (within_limit given))
Writes text NoMemory source given written = IsFront written (text source.ended (within_limit given))
Writes text other source given written = HasEnded source × (written ≡ text true given)

-- how many bytes were read: the byte past the limit at `ScriptLimit`, and at each end that is no
-- fault of the sink and no want of memory only there
abbrev pub ReadsBytes : RunEnd → ℕ → Type 0
ReadsBytes ScriptLimit count = count ≡ SCRIPT_LIMIT + 1
ReadsBytes WriteFault count = count ≤ SCRIPT_LIMIT + 1
ReadsBytes NoMemory count = count ≤ SCRIPT_LIMIT + 1
ReadsBytes other count = count ≤ SCRIPT_LIMIT

-- the reading met no end: the source has ended no more than before, no read failed, and
-- the limit was not passed
abbrev pub MetNoEnd : ReadingSide → ReadingSide → List ℕ → Type 0
MetNoEnd from from' given =
    (from'.ended ≡ from.ended) × (from'.faults ≡ from.faults) × (length given ≤ SCRIPT_LIMIT)

-- what stands between a source and a sink before and after statements were read from the one, and
-- replies, which have this text, written to the other: the source gave these bytes and the sink
-- took those, and they belong together as the end says. Want of memory of the run itself is told in
-- place of no other end: some reply was still to be written, or the reading met no end
pub record RepliesBetween (text : (ended : Bool) → List ℕ → List ℕ) (end : RunEnd)
    (from from' : ReadingSide) (to to' : WritingSide)
    (given written : List ℕ) : Type 0 where
  pub gave : Consumes from.left from'.left given
  pub took : Appends to.taken to'.taken written
  pub reads : ReadsBytes end (length given)
  pub writes : Writes text end from' given written
  pub memory : end ≡ NoMemory
      → IsProperFront written (text from'.ended (within_limit given)) ⊎ MetNoEnd from from' given

-- whether some reply is a refusal is what tells the two ends apart at which
-- all was read and written
abbrev pub TellsRefused : RunEnd → (refused : Bool) → Type 0
TellsRefused Clean refused = refused ≡ false
TellsRefused SomeRefused refused = refused ≡ true
TellsRefused ReadFault refused = Unit {0}
TellsRefused WriteFault refused = Unit {0}
TellsRefused NoMemory refused = Unit {0}
TellsRefused ScriptLimit refused = Unit {0}

-- A run answered a script, and memory ran out for the statements at the places `wanted`. Nobody
-- chooses these places, since the text that was written determines them. If all replies were
-- written, the well-formed replies that are read back from `written` are those to the script with
-- `memory` at the places where they are `memory`: `the_text_tells_where_memory_was_wanted` of
-- `star_store`. If a prefix of the text was written, nothing is said of the places after it.
pub record AnswersScript (end : RunEnd) (from from' : ReadingSide)
    (to to' : WritingSide) : Type 0 where
  pub given : List ℕ
  pub written : List ℕ
  pub wanted : List ℕ
  pub replies : RepliesBetween (script_text wanted) end from from' to to' given written
  pub refused : TellsRefused end (some_refused wanted true given)

-- which faults came. Nothing was read after a read that failed, and nothing was written
-- after a write that failed
abbrev pub CountsFaults : RunEnd → (from from' : ReadingSide) → (to to' : WritingSide) → Type 0
CountsFaults ReadFault from from' to to' =
    FailedOnce from.faults from'.faults from'.failed × (to'.faults ≡ to.faults)
CountsFaults WriteFault from from' to to' =
    FailedOnceAtMost from.faults from'.faults from'.failed
    × FailedOnce to.faults to'.faults to'.failed
CountsFaults NoMemory from from' to to' =
    FailedOnceAtMost from.faults from'.faults from'.failed × (to'.faults ≡ to.faults)
CountsFaults other from from' to to' = (from'.faults ≡ from.faults) × (to'.faults ≡ to.faults)
