mod Names
pub mod Apart
pub mod Slopes
pub mod Accepted
