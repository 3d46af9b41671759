pub mod Numbers
pub mod Steps
pub mod Chip
pub mod Answers
