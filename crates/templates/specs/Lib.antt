pub mod Levels
pub mod Rows
pub mod Calibration
pub mod Curves
pub mod Lines
pub mod CurveRules
pub mod Open
pub mod Sound
