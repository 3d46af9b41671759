pub mod Words
pub mod Said
pub mod Figures
pub mod Hexadecimal
pub mod Values
pub mod Levels
