-- What the contracts of this crate, and of those above it, say of values and their texts.
pub mod Value
pub mod SmallText
pub mod Integer
pub mod Cell
pub mod Refusal
pub mod TextFault
pub mod StatementFault
pub mod OrderLaws
pub mod Lends
pub mod Literals
pub mod ListLends
pub mod Roomy
pub mod Past
pub mod Faded
pub mod Codes
pub mod First
