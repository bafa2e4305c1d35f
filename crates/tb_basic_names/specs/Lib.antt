pub mod Lines
pub mod Sources
pub mod Jumps
pub mod Variables
pub mod Names
pub mod Places
pub mod Touched
pub mod Laws
