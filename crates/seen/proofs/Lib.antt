-- The laws of the table: where a key is looked for, what an entry holds, that a table holds just the keys that were entered, and what the search relies on.
pub mod Slots
pub mod Scan
pub mod Entries
pub mod Holding
pub mod Remembering
pub mod Found
pub mod LookedUp
pub mod Examples
