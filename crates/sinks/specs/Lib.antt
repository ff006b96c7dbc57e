pub mod Putting
pub mod Sinks
pub mod Steps
