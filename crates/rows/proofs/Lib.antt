mod Coded
pub mod Judged
