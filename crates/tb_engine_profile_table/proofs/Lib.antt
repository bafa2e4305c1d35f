pub mod Appending
pub mod Adding
pub mod Tabling
pub mod Largest
pub mod Addressing
