pub mod Form
pub mod Walks
pub mod FormLaws
pub mod BookAnswer
