pub mod Sheets
pub mod PageCall
