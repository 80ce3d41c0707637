pub mod Kth
pub mod Ask
