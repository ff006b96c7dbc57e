pub mod Counts
pub mod Examples
pub mod Left
pub mod Parts
pub mod Reading
pub mod Rules
