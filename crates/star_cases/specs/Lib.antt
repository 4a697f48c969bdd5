-- When a case is right.
pub mod Judge
pub mod Outcome
