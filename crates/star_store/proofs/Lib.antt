-- Lemmas on the changes of loads and deletes, and on the tables behind them.
pub mod AppendLemmas
pub mod ChangeLemmas
pub mod CommitLemmas
pub mod EndLemmas
pub mod KeyNumberLemmas
pub mod KeyTestLemmas
pub mod LoadLemmas
pub mod RowLemmas
pub mod SoundLemmas
pub mod TakenLemmas
pub mod VersionLemmas
-- Lemmas on statements, their outcomes and their replies.
mod TextLemmas
mod ApplyLemmas
mod LoadKindLemmas
mod DeclareLemmas
mod LawLemmas
mod FittingLemmas
pub mod HistoryLemmas
mod MemoryLemmas
mod JoinedLemmas
mod ValueLemmas
mod AnswerLemmas
mod StoreLemmas
mod NameLemmas
mod LineLemmas
mod LongLineLemmas
mod ReasonLemmas
mod FormedLemmas
mod ScriptLemmas
