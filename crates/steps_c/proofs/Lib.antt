pub mod On
pub mod Counting
