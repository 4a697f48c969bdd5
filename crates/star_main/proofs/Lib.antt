-- What `clap` makes of words, readers of words, and the table of options; what is wrong with words;
-- and the headline from what a run promises.
pub mod ValueLemmas
pub mod TableLemmas
mod RangeLemmas
pub mod StrictReader
pub mod StrictLemmas
pub mod WordLemmas
pub mod RuleLemmas
pub mod TurnLemmas
pub mod UseLemmas
pub mod ParseLemmas
pub mod ReaderLemmas
pub mod ReadingLemmas
pub mod AnswerLemmas
pub mod SettingsLemmas
mod FineLemmas
mod WordFaultLemmas
mod FaultLemmas
mod HelpLemmas
mod HeadlineLemmas
mod CompleteLemmas
mod MadeLemmas
mod WorkLemmas
mod ByModeLemmas
