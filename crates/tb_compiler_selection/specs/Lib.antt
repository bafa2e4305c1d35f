pub mod Groups
pub mod Liveness
pub mod Select
pub mod GroupSteps
pub mod Laws
pub mod PlainData
