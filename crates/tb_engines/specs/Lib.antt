pub mod Outcomes
pub mod Delivery
pub mod Programs
pub mod Assembly
pub mod Texts
pub mod Writing
pub mod Ends
pub mod Numbers
