pub mod Letters
pub mod Dates
pub mod Text
pub mod Whose
