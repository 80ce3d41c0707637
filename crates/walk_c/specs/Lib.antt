-- What the contracts of `walk_c` cite beside those of `walk`.
pub mod Walk
