-- The floor as stored: its vertices, its polygons, and what is looked up in it.
pub mod Stored
