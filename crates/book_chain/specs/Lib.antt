pub mod Chain
pub mod Crypt
pub mod ChainLaws
