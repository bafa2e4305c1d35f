pub mod Code
pub mod Evaluation
pub mod Frames
pub mod Memory
pub mod Scopes
pub mod Sources
pub mod Texts
