pub mod FeistelLaws
