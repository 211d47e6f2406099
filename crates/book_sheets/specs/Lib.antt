pub mod Cursors
pub mod Tested
pub mod Rows
pub mod Left
