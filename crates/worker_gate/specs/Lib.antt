-- What the contracts of this crate, and of those above it, say of workers.
pub mod Hands
pub mod Left
pub mod Managed
pub mod Looks
pub mod Signals
pub mod Turns
