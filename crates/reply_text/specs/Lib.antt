-- How replies are written, which replies there are, and how they are read.
pub mod Text
pub mod Formed
pub mod Reading
