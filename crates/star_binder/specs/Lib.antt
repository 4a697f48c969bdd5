-- What a statement means over the tables of a schema, and why it is refused.
pub mod Refused
pub mod Places
pub mod Conjuncts
pub mod Bound
pub mod Where
pub mod Table
pub mod Scope
pub mod Select
pub mod Named
pub mod Fault
pub mod Checked
pub mod Literals
pub mod Parts
