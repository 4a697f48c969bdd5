-- What is kept of rows by groups, what one row more makes of it, how it lies, and what it ends as.
pub mod Grouped
pub mod Folding
pub mod Partial
pub mod Absorbing
pub mod Taken
pub mod Homes
pub mod Cells
pub mod Finish
pub mod Entries
pub mod Numbered
pub mod Ways
