pub mod Holding
pub mod History
