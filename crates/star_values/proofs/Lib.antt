-- Lemmas on the definitions of this crate.
mod IntegerLemmas
mod LiteralLemmas
mod SmallTextLemmas
pub mod PlaceLemmas
pub mod RisingLemmas
pub mod CrossingLemmas
mod CodeLemmas
mod FirstLemmas
