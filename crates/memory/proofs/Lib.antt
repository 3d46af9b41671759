mod Names
pub mod FieldLaws
pub mod PieceLaws
pub mod Digits
pub mod Chips
pub mod PageParts
pub mod Streams
pub mod Written
pub mod SumLaws
pub mod Images
pub mod Sealing
