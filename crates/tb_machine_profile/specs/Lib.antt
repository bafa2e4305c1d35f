pub mod Steps
pub mod Tallies
pub mod Profiles
