-- The grammar in the words of `Form`, what its symbols stand for, and how they are read.
pub mod Form
pub mod Grammar
pub mod Statement
pub mod Condition
pub mod Sentence
pub mod Parsed
pub mod Printed
pub mod Fault
pub mod Reads
pub mod Reader
pub mod Reading
