pub mod Codes
pub mod Meaning
pub mod Sound
