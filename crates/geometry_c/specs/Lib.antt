-- What the contracts of `geometry_c` cite beside those of `point` and `helpers`.
pub mod Export
