pub mod Laws
pub mod Spaces
mod Stepping
