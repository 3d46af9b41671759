pub mod Digits
pub mod Listing
pub mod Rounding
pub mod Singles
pub mod Tables
pub mod Texts
