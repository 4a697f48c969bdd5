-- Lemmas of this crate. Those on parts of rows, and on homes, are for the crates above, too.
pub mod KeyLemmas
pub mod EachLemmas
pub mod PartLemmas
pub mod PartialLemmas
pub mod HomeLemmas
pub mod AbsorbLemmas
pub mod ApartLemmas
mod AbsorbCellLemmas
mod AbsorbKeptLemmas
mod MakingLemmas
mod FoldLemmas
mod ListLemmas
mod PlainLemmas
mod CellLemmas
mod GroupLemmas
mod KeptLemmas
mod EndLemmas
mod OneGroupLemmas
mod OrderLemmas
mod EntryLemmas
mod RowsLemmas
mod OrderedRowsLemmas
mod FoundLemmas
