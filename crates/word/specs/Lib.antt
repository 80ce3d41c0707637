-- What the contracts of this crate, and of those that read and write words, speak of.
pub mod Word
