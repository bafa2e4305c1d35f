pub mod Names
pub mod Outcomes
pub mod Programs
pub mod Files
