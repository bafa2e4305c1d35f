pub mod Numbers
pub mod Places
pub mod Names
pub mod Looks
pub mod Deeds
pub mod Checks
pub mod Putting
