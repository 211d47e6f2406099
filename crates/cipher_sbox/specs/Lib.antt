pub mod Boxes
pub mod Rules
pub mod BoxTests
