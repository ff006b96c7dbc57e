pub mod Cutting
pub mod Edging
pub mod Joining
mod Shaping
pub mod Walking
