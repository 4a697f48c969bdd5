-- What the contracts of this crate, and of those above it, say of the rows that go into groups.
pub mod Folded
pub mod Slots
pub mod Kinds
pub mod Sharings
pub mod Making
pub mod Counted
pub mod Blocks
pub mod Adding
