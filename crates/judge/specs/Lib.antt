-- What the judge says of a floor, a question and a route file.
pub mod Verdict
pub mod Exactly
