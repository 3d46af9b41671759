mod Names
pub mod Recoding
pub mod PartLaws
pub mod CommitLaws
pub mod Commits
