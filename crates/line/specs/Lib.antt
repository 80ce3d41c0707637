-- The lines that the programs say.
pub mod Decimal
pub mod Line
pub mod Put
