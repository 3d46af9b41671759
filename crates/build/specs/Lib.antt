pub mod Build
pub mod Listed
pub mod Tested
pub mod Filled
