-- What the contracts of `cone` cite, and in Sight what the laws of the clip are said with.
pub mod Cone
pub mod Landing
pub mod Sight
