pub mod RecordWords
pub mod Entry
pub mod EntryLaws
pub mod Pieces
