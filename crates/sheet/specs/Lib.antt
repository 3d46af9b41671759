pub mod Check
pub mod Reads
pub mod Opened
pub mod Walk
