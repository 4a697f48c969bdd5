pub mod FaultLemmas
pub mod RecordLemmas
pub mod ReaderLemmas
pub mod MarkLemmas
pub mod RowLemmas
