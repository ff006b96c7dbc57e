pub mod Compared
pub mod Parted
pub mod Spelled
