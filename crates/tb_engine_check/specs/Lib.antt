pub mod Checks
pub mod Outcomes
pub mod Refusals
pub mod Reports
pub mod Rows
pub mod Texts
pub mod Options
