mod Names
pub mod Outcomes
pub mod WrittenLaws
pub mod OrderLaws
