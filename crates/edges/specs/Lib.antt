-- What the contracts of `edges` cite.
pub mod Where
pub mod Ground
pub mod AcceptedFloor
