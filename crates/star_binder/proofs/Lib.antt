-- Lemmas on the definitions of this crate.
mod ListLemmas
mod FitsLemmas
mod PlaceLemmas
mod JoinLemmas
mod OverLemmas
mod ConjunctLemmas
mod BoundLemmas
mod StatementLemmas
mod ScopeLemmas
mod WhereLemmas
