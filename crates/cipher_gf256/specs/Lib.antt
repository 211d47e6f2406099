pub mod Values
pub mod ProductLaws
