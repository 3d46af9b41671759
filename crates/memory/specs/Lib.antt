pub mod Bits
pub mod Pieces
pub mod Image
pub mod Laid
pub mod Answers
