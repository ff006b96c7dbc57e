pub mod Rustc
pub mod Tables
pub mod Lawful
