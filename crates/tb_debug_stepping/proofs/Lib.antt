pub mod LineLemmas
pub mod Talking
