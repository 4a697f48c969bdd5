-- What is replied to statements of which each has its effect at once, and what that leaves in the
-- tables, in a reader and at a sink.
use Rattle.std.specs.Prelude.{◌≡◌, ◌⊎◌, ℕ, Bool, List, [], ◌∷◌, Option, Some, None, Result, Ok, Err}
use Rattle.std.specs.List.{list_any}
use Rattle.std.specs.Io.KnownBytes.{Appends}
use Rattle.star_values.specs.declared.no_memory.NoMemory as values
use Rattle.script_reader.specs.Reading.{Reading, StaysFed, TakesFirst}
use Rattle.script_reader.specs.declared.statement.Statement.{Statement}
use Rattle.query_meaning.specs.Store.{Store}
use Rattle.reply_text.specs.Text.{text_of, text_of_all}
use Rattle.reply_text.specs.declared.reply.Reply.{Reply}
use Rattle.reply_text.specs.declared.reply.Reply.TheVariants.{Memory}
use Rattle.star_store.specs.Effect.{effect_of, store_after}
use Rattle.script_run.specs.Answer.{HasNoStatement}
use Rattle.script_run.specs.Front.{HaltsAt, LeavesToRead, ReadsBetween}
use Rattle.script_run.specs.Run.{is_refusal}
use Rattle.script_run.specs.declared.answer.Answered.{Answered}
use Rattle.script_run.specs.declared.halt.Halt.{Halt}

-- the reply to a statement over these tables, and the tables behind it: those of its effect, or
-- `memory`, and then nothing has changed
abbrev pub IsReplied : (old : Store) → Statement → Reply → (new : Store) → Type 0
IsReplied old statement reply new =
    ((reply ≡ (effect_of old statement).reply) × (new ≡ store_after old statement))
    ⊎ ((reply ≡ Memory) × (new ≡ old))

-- so it is with each of these statements, one behind the other
abbrev pub AreReplied : (old : Store) → List Statement → List Reply → (new : Store) → Type 0
AreReplied old [] [] new = new ≡ old
AreReplied old [] (reply ∷ replies) new = ⊥
AreReplied old (statement ∷ statements) [] new = ⊥
AreReplied old (statement ∷ statements) (reply ∷ replies) new =
    (between : Store) × IsReplied old statement reply between
    × AreReplied between statements replies new

-- statements were read and replied to, and all of the replies was written; and
-- whether some reply is a refusal
pub record Replies (old : Store) (waits : Reading) (new : Store) (waits' : Reading) (refused : Bool)
    (taken taken' : Option (List ℕ)) : Type 0 where
  pub statements : List Statement
  pub reads : ReadsBetween waits statements waits'
  pub stays : StaysFed waits waits'
  pub replies : List Reply
  pub are : AreReplied old statements replies new
  pub took : Appends taken taken' (text_of_all replies)
  pub refusals : refused ≡ list_any is_refusal replies

-- statements were read and replied to until the replies halted
pub record HaltsBehind (halt : Halt) (old : Store) (waits : Reading)
    (taken taken' : Option (List ℕ)) : Type 0 where
  pub statements : List Statement
  pub behind : Reading
  pub reads : ReadsBetween waits statements behind
  pub stays : StaysFed waits behind
  pub replies : List Reply
  pub tables : Store
  pub are : AreReplied old statements replies tables
  pub written : List ℕ
  pub took : Appends taken taken' written
  pub ends : HaltsAt halt written replies (LeavesToRead behind)

-- every statement that is whole was replied to, or the replies halted
abbrev pub AnswersWhole : Result Bool Halt → (old : Store) → Reading → (new : Store) → Reading
    → (taken taken' : Option (List ℕ)) → Type 0
AnswersWhole (Ok refused) old waits new waits' taken taken' =
    Replies old waits new waits' refused taken taken' × HasNoStatement waits'
AnswersWhole (Err halt) old waits new waits' taken taken' = HaltsBehind halt old waits taken taken'

-- the first statement that waits was replied to
pub record RepliesFirst (old : Store) (waits : Reading) (new : Store) (waits' : Reading)
    (answered : Answered) : Type 0 where
  pub statement : Statement
  pub first : TakesFirst waits waits' statement
  pub reply : Reply
  pub is : IsReplied old statement reply new
  pub text : answered.text ≡ text_of reply
  pub refused : answered.refused ≡ is_refusal reply

-- a statement is replied to, or none that waits is whole and the rest means the same;
-- where no memory was left for the reader or for the text of a reply, a statement is
-- left at the end of the input
abbrev pub GivesNext : Result (Option Answered) values.NoMemory → (old : Store) → Reading
    → (new : Store) → Reading → Type 0
GivesNext (Ok (Some answered)) old waits new waits' = RepliesFirst old waits new waits' answered
GivesNext (Ok None) old waits new waits' =
    (new ≡ old) × HasNoStatement waits' × ReadsBetween waits [] waits'
GivesNext (Err none) old waits new waits' = LeavesToRead waits
