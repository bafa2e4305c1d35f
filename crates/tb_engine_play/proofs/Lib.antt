mod Starting
mod Sending
pub mod Talking
mod OneRun
