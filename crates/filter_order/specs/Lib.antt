-- What the contracts of this crate, and of those above it, say of the order of filters.
pub mod Numbers
pub mod Rates
pub mod Filtered
pub mod Numbered
pub mod Filters
pub mod Spares
pub mod Versions
