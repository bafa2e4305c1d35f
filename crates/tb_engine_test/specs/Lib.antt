pub mod Covering
pub mod Places
pub mod Reaching
pub mod Running
pub mod Talks
pub mod Telling
pub mod Testing
