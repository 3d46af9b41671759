pub mod Tray
pub mod Images
pub mod Lines
pub mod Trays
pub mod Steps
