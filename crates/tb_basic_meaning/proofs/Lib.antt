pub mod Constants
pub mod Runs
pub mod Lettered
pub mod Evaluated
pub mod Interpreting
pub mod Turning
pub mod Found
pub mod Costs
