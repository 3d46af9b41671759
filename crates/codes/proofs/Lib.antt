mod Names
pub mod CodeLaws
pub mod DecodeLaws
pub mod EncodeLaws
pub mod FloatLaws
pub mod Lent
pub mod StepLaws
pub mod StoringRule
pub mod Table
pub mod SingleLaws
pub mod SingleValues
pub mod SoundLaws
pub mod StoringLaws
pub mod ScaleLaws
pub mod SingleRounding
pub mod StoredLaws
pub mod DirectCodes
