pub mod ConstantsLaws
