-- What belongs to no one function: where a NaN leads.
pub mod Laws
