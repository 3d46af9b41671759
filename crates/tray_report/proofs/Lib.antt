mod Names
pub mod DecimalLaws
pub mod LineLaws
pub mod BitLaws
pub mod JudgeLaws
pub mod TrayLaws
pub mod StepLaws
