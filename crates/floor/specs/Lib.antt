pub mod Look
pub mod Exactly
