pub mod Forms
pub mod Rounds
pub mod Accepted
pub mod TooLong
