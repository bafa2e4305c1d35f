pub mod Conditions
pub mod Kept
pub mod Lines
pub mod Statements
pub mod Texts
