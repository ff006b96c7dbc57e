pub mod Joined
pub mod Parts
pub mod State
