pub mod BesideLemmas
pub mod BlockLemmas
pub mod EndsLemmas
pub mod PartLemmas
pub mod VisibleLemmas
