pub mod Tables
pub mod ColumnLaws
