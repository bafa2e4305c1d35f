pub mod Start
pub mod Undelivered
pub mod Ran
pub mod Stretched
