mod Names
pub mod Below
pub mod Rising
pub mod Same
pub mod Alphabet
pub mod Months
pub mod Leap
pub mod Calendar
pub mod Finding
pub mod Digits
pub mod Whose
pub mod Turning
pub mod Answers
