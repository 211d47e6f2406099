pub mod ListLaws
pub mod Exchange
