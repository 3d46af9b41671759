mod Names
pub mod Tests
pub mod FieldPlans
pub mod Lent
pub mod PairPlans
pub mod EndingPlans
mod Handed
pub mod Filling
pub mod TextTurns
pub mod Coding
pub mod Listing
pub mod PairTurns
pub mod CurvePlans
pub mod SegmentPlans
pub mod CurveTurns
pub mod BuiltIn
pub mod Splitting
