pub mod Format
pub mod Contents
pub mod Image
pub mod Places
pub mod Pieces
pub mod Judgement
