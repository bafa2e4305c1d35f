pub mod Slots
pub mod PlainData
pub mod Lowered
pub mod Weights
pub mod Ranges
pub mod Follows
pub mod Refusals
