pub mod Opt
