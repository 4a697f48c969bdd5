-- Which change a load or a delete makes, and what the tables are then.
pub mod Loads
pub mod Deletes
pub mod Done
pub mod Fault
pub mod Lends
pub mod Parts
-- What a statement does, and the replies to a list of statements.
pub mod Script
pub mod Memory
pub mod Fitting
pub mod Effect
pub mod Outcome
pub mod Kinds
pub mod Text
pub mod Form
pub mod Applied
pub mod Laws
