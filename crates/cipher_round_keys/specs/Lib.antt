pub mod Steps
pub mod Swap
