pub mod Words
pub mod Texts
pub mod Strays
pub mod Faults
pub mod Lines
pub mod Errors
pub mod Rows
