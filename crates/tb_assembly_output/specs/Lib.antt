-- the names that a text has
pub mod Names
-- all that is wrong with a text
pub mod Findings
-- labels for a debugger
pub mod Labels
-- items that assemble to bytes
pub mod Listings
-- what is made of a text
pub mod Assembled
