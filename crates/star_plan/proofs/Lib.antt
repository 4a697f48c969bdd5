-- Lemmas on the definitions of this crate.
mod FitsLemmas
mod FoldingLemmas
mod TruthLemmas
mod KeysLemmas
pub mod PermutationLemmas
mod FirstLemmas
mod AnswerLemmas
pub mod FlatLemmas
pub mod ListLemmas
mod RepeatLemmas
mod SchemaLemmas
