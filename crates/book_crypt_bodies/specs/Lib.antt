pub mod BodiesLaws
pub mod CursorBodies
