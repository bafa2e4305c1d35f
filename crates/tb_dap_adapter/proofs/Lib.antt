pub mod Typing
pub mod Walking
