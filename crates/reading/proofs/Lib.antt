pub mod Agreeing
pub mod Coming
pub mod Counting
pub mod Parted
pub mod Shown
