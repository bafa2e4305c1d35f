pub mod Frames
pub mod Headers
pub mod Lines
pub mod Numbers
pub mod Outcomes
