-- What the tables hold after a history, and what a query alone answers over them.
pub mod Alone
pub mod History
pub mod Store
pub mod Accepted
pub mod Settled
pub mod Keyed
pub mod KeptTables
pub mod Read
pub mod HistoryExamples
-- What a query by itself is asked over, and what is kept of rows until its answer is made of it.
pub mod Stands
pub mod Chosen
pub mod Summed
pub mod Tally
pub mod Kept
pub mod Finish
