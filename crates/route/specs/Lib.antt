-- What the route file says, what a true route is, and what the judge says of a file.
pub mod Step
pub mod Record
pub mod World
pub mod Judge
pub mod Verdict
