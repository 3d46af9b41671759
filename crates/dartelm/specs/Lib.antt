pub mod Values
pub mod Answers
pub mod Calls
pub mod Sheets
pub mod Found
