mod Names
pub mod Steps
pub mod WalkSteps
pub mod TableSteps
pub mod CurveSteps
pub mod BlockSteps
pub mod TextSteps
pub mod SheetSteps
pub mod CurvePlaces
pub mod OpenLaws
pub mod HeldLaws
pub mod ReadLaws
