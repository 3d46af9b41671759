mod Names
pub mod Words
pub mod Runs
pub mod Laying
pub mod Taking
pub mod Mending
pub mod SealAll
