pub mod Cursors
pub mod Turns
