mod Names
pub mod NumberLaws
pub mod RowLaws
pub mod PageLaws
pub mod OnePageLaws
pub mod SeveralLaws
pub mod StepLaws
pub mod CallLaws
pub mod CodeLaws
