-- What a token is, and which tokens are a line.
pub mod Token
pub mod Line
pub mod Spaced
pub mod Next
pub mod Scan
pub mod Symbol
pub mod Keyword
pub mod Sign
pub mod Limits
pub mod Written
pub mod Fault
pub mod Read
