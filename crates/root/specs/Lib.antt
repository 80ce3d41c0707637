pub mod Root
pub mod Scale
