mod Names
pub mod LineLaws
pub mod GatherLaws
pub mod ReplyLaws
pub mod ChoiceLaws
pub mod BuildLaws
