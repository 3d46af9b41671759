pub mod Recordings
pub mod Ticks
pub mod Agreement
