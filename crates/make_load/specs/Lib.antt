-- The made workload, and the numbers of a list of replies.
pub mod Summary
pub mod Script
pub mod Made
