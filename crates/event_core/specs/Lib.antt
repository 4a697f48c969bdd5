-- The parts of a core in code, the state that they stand for, and what holds of them.
pub mod CoreParts
pub mod Lent
pub mod Seen
pub mod Core
pub mod Spared
pub mod Replies
pub mod Took
pub mod Chosen
pub mod Changes
pub mod Taking
pub mod Passing
pub mod Board
