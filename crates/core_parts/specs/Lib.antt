-- The parts of a core: what they are to the core, and how code holds them.
pub mod Filtered
pub mod InFlight
pub mod Lent
pub mod Seen
pub mod Stands
pub mod Seated
pub mod Held
pub mod Numbered
pub mod Spares
pub mod Known
pub mod Asked
pub mod LetGo
pub mod Seats
pub mod Flights
pub mod Filters
pub mod Passed
pub mod Passing
