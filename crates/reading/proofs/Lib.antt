mod Names
pub mod Positions
pub mod Opening
pub mod Spans
pub mod Orders
pub mod Fractions
pub mod Serving
pub mod Terms
