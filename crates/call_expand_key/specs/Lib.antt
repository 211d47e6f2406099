pub mod ExpandLaws
