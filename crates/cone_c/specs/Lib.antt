-- What the contracts of `cone_c` cite beside those of `cone`.
pub mod Clip
