mod Names
pub mod DigitLaws
pub mod ShownLaws
pub mod RoundLaws
