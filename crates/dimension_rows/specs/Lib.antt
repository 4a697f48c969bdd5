-- What the contracts of this crate, and of those above it, say of the rows of a dimension.
pub mod Keys
pub mod Hash
pub mod Integers
pub mod Links
pub mod Parts
