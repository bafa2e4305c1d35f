pub mod Running
pub mod Facts
pub mod Profiles
pub mod Prgs
