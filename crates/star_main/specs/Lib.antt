-- Which words are options and values, and which settings the options make; what the modes make of
-- settings, the headline, how a call ends of which nothing failed, and what is told of a run that
-- was cut short. Also what is wrong with words that name no settings, and which words ask for help.
pub mod Words
pub mod Values
pub mod Table
pub mod Rows
pub mod Ranges
pub mod Examples
pub mod Headline
pub mod Complete
pub mod Made
pub mod Serving
pub mod Modes
pub mod HandedBack
pub mod ByMode
pub mod Fault
pub mod WordsOutcome
pub mod WordFault
pub mod Help
