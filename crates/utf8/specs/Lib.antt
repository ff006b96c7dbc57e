pub mod States
pub mod Utf8
