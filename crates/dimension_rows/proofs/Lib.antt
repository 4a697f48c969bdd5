-- Lemmas on keys, on rows with one more behind them, on links, on the walk along them, on the parts, and on columns beside rows.
pub mod KeyLemmas
pub mod AppendLemmas
pub mod LinkLemmas
pub mod LookUpLemmas
pub mod PartLemmas
pub mod ColumnLemmas
