pub mod Settings
pub mod Numbers
pub mod Compiled
pub mod Texts
pub mod Parts
-- what a compiler says of its own
pub mod Promise
pub mod Refusals
pub mod Answers
pub mod Theorem
