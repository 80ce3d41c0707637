-- What the laws of f32 speak of, beside the kit's own definitions.
pub mod Units
