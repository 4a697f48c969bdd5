-- What the contracts of this crate, and of those above it, say of the lives of queries.
pub mod Lives
pub mod Conditions
pub mod Changes
pub mod Sound
pub mod Inside
pub mod LetGo
pub mod Slots
