mod Names
pub mod Ticks
pub mod Agreement
