-- What a core tells of the statements that were given to it by one seat.
use Rattle.std.specs.Prelude.{◌≡◌, ◌≢◌, ◌⊎◌, ℕ, List, [], ◌++◌}
use Rattle.script_reader.specs.declared.statement.Statement.{Statement}
use Rattle.reply_text.specs.declared.reply.Reply.{Reply}
use Rattle.core_state.specs.Rows.{Sight}
use Rattle.core_state.specs.Sent.{AreEntriesOf, AreRepliesTo, Sent, numbers_in, statements_in, takens_of}
use Rattle.core_state.specs.State.{Entry, Taken}

-- From one sight of a seat to another it was given these statements. The first ones, `said`, it
-- sent and took these replies to. The next ones, `others`, it sent, and nobody reads their replies.
-- The last ones, `rest`, it did not send. The entries that came are those of what it sent, each at
-- its point, and others of other seats. What it submitted has the numbers of what it sent. What it
-- took is what it has replied to, each with what was told of it at its point, and then `later`.
--
-- What `others` and `later` are depends on the end. If all replies were written, both are empty
-- (`IsAllReplied`): at the ends `Clean`, `SomeRefused`, `ReadFault` and `ScriptLimit` of a run. At
-- `WriteFault` and `NoMemory` the replies halted. Then `others` are the statements whose replies
-- were still to come, and `later` is any list: no clause says which of these replies were taken. A
-- session that is let go takes and drops those that are there (`LetsGo`), and a run takes none
-- (`Leaves`).
pub record TellsSeat (seat : ℕ) (old new : Sight) (statements : List Statement)
    (replies : List Reply) : Type 0 where
  pub said : List Sent
  pub others : List Sent
  pub rest : List Statement
  pub all : statements ≡ statements_in said ++ (statements_in others ++ rest)
  pub since : List Entry
  pub seen : new.seen ≡ old.seen ++ since
  pub entries : AreEntriesOf seat old.seen (said ++ others) since
  pub submitted : new.row.submitted ≡ old.row.submitted ++ numbers_in (said ++ others)
  pub later : List Taken
  pub taken : new.row.taken ≡ old.row.taken ++ (takens_of new.seen said ++ later)
  pub answered : AreRepliesTo new.seen said replies

-- all of them were replied to
pub record IsAllReplied {seat : ℕ} {old new : Sight} {statements : List Statement}
    {replies : List Reply}
    (tells : TellsSeat seat old new statements replies) : Type 0 where
  pub others : tells.others ≡ []
  pub rest : tells.rest ≡ []
  pub later : tells.later ≡ []

-- something was given that was not replied to
abbrev pub LeavesUnreplied : {seat : ℕ} {old new : Sight} {statements : List Statement}
    {replies : List Reply}
    → TellsSeat seat old new statements replies → Type 0
LeavesUnreplied tells = (tells.others ≢ []) ⊎ (tells.rest ≢ [])
