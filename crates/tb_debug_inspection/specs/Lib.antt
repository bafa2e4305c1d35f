pub mod Readings
pub mod Values
pub mod Texts
pub mod Faults
