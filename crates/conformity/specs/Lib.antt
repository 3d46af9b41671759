pub mod Conformity
pub mod Tight
pub mod Steps
