-- Lemmas of histories and of the tables that they make, which crates above cite.
pub mod ApartLemmas
pub mod CommitLemmas
pub mod FoundLemmas
pub mod KeyLemmas
pub mod LaterLemmas
pub mod LoadedLemmas
pub mod NumberLemmas
pub mod ReadLemmas
pub mod SettledLemmas
-- Lemmas of how a query by itself is answered.
mod ChosenLemmas
pub mod ListLemmas
mod PlainLemmas
mod SumLemmas
mod ScanLemmas
mod TallyLemmas
mod KeptLemmas
mod GroupLemmas
mod EndLemmas
mod SortedLemmas
mod TakesLemmas
mod StandsLemmas
