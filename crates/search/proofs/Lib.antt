-- The laws of the search from end to end.
pub mod Telling
pub mod Doors
pub mod Found
pub mod Enough
