-- What a reader of a route file sees, and where it goes.
pub mod Reading
