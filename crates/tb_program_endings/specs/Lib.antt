pub mod Helping
pub mod Notes
pub mod Statuses
