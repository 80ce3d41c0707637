-- Where a record's words are: the laws that belong to no one function.
pub mod Records
