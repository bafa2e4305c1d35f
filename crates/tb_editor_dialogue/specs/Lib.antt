pub mod Hearing
pub mod Dialogue
