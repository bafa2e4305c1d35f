pub mod Mends
pub mod Writing
pub mod Bounds
pub mod Signs
pub mod Fixes
pub mod Actions
