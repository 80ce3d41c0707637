-- The laws of the counts, how many there are, and how a test of every record decides a statement about the records.
pub mod Laws
pub mod Tally
pub mod Decides
