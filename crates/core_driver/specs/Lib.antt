-- What the driver of a core does, and why it comes to an end.
pub mod Driven
pub mod Work
pub mod Lap
