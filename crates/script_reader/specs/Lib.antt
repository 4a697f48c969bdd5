-- What the contracts of this crate, and of those above it, say of scripts.
pub mod Script
pub mod Laws
pub mod Reach
pub mod Coming
pub mod Cut
pub mod Reading
pub mod Steps
pub mod Open
pub mod Short
pub mod Whole
