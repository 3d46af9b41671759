mod Names
pub mod Laying
pub mod EntryLaws
mod OwnEntries
pub mod IndexLaws
pub mod FetchLaws
pub mod Fetched
