pub mod Talking
mod Flat
pub mod Past
pub mod Writable
