-- What the contracts of `helpers` cite beside those of `point`.
pub mod Helpers
