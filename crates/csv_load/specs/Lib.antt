-- What the contracts of this crate, and of those above it, say of the records and rows of a block.
pub mod Records
pub mod Rows
pub mod BlockFault
pub mod Reading
