pub mod Dialogue
pub mod Labels
pub mod Lists
pub mod Sources
pub mod Streams
pub mod Texts
