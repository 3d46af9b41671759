mod Names
pub mod Ceilings
pub mod Exacts
pub mod Greatest
pub mod Bounds
pub mod Filling
pub mod Orders
