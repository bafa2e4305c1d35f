pub mod Naming
pub mod Used
pub mod Adding
