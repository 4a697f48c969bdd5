-- What the contracts of this crate, and of those above it, say of a board and its seats.
pub mod Views
pub mod Rule
pub mod Seats
pub mod Small
