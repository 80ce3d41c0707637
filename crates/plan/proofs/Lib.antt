-- The laws of the plan.
pub mod Laws
