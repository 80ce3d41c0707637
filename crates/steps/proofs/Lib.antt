pub mod All
pub mod Made
pub mod Held
pub mod World
pub mod Examples
