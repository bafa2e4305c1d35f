pub mod Lines
pub mod Talks
pub mod Plays
