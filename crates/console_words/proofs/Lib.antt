mod Names
pub mod WordLaws
pub mod FigureLaws
pub mod FilledLaws
pub mod ListLaws
pub mod HexLaws
pub mod ValueLaws
