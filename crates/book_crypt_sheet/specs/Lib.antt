pub mod ClearWritten
pub mod Continued
