pub mod LaneLemmas
pub mod SetLemmas
pub mod WordLemmas
