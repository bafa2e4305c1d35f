pub mod Screens
pub mod Talks
pub mod Files
