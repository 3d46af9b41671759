mod Names
pub mod Filling
pub mod Answering
pub mod Padding
pub mod NextRows
pub mod SheetReads
pub mod Handing
