pub mod Outcomes
pub mod Greeting
pub mod Sessions
pub mod Talking
pub mod Waiting
pub mod Dialogue
