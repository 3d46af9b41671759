mod Names
pub mod CalibrationLaws
pub mod MarkLaws
pub mod OpenLaws
pub mod RowLaws
pub mod RuleLaws
pub mod TemplateFacts
pub mod CurveLaws
