-- What the contracts of this crate, and of those above it, say of versions.
pub mod Beside
pub mod Blocks
pub mod Ends
pub mod Integers
pub mod Keys
pub mod Visible
