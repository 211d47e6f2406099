pub mod Answer
pub mod Judging
