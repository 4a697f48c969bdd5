-- What the contracts of this crate, and of those above it, say of a scan and of
-- the batches that it cuts.
pub mod Scanning
pub mod Lap
pub mod Range
pub mod Stamped
pub mod Batches
pub mod Blanks
pub mod Blanked
pub mod Calls
pub mod Examples
pub mod ByValue
pub mod Inside
