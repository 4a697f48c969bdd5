-- Lemmas of this crate.
pub mod OwnLemmas
pub mod ComingLemmas
pub mod SeatLemmas
pub mod LoopLemmas
pub mod FoldedLemmas
pub mod LandLemmas
pub mod NewLemmas
pub mod CrossingLemmas
