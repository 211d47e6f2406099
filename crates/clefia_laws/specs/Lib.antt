pub mod XorLaws
pub mod DigitLaws
pub mod SizedLaws
pub mod NetworkLaws
pub mod FieldLaws
pub mod FFunctionLaws
pub mod KeyLaws
pub mod BlockLaws
