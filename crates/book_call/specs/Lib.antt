pub mod Directions
pub mod BookCallLaws
