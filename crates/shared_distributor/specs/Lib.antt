-- What the contracts of this crate, and of those above it, say of what seats fold apart.
pub mod Apart
pub mod Shared
pub mod Seats
