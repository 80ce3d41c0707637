-- The tests 2 to 7, each of one list, one record or the question, and what an accepted floor is.
pub mod Tests
pub mod Accepted
