pub mod Rows
pub mod Sheet
pub mod State
