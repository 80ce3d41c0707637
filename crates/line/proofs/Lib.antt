-- The laws of the lines: what a decimal is, how pieces make a line, what a line tells, and lines that are computed.
pub mod Decimals
pub mod Pieces
pub mod Short
pub mod Tells
pub mod Examples
