-- The records of the route file by value.
pub mod Records
