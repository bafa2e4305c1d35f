pub mod Codes
pub mod Values
pub mod Diagnostics
pub mod Published
