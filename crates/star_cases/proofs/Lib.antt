-- What is known of the run of a case.
pub mod OutcomeLemmas
mod UnlentLemmas
