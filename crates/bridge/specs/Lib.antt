pub mod Answered
pub mod Calls
pub mod Numbers
pub mod Places
