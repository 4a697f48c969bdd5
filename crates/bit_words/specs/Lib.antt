-- What the contracts of this crate, and of those above it, say of sets of numbers.
pub mod Sets
pub mod Words
