pub mod Index
pub mod Laid
