-- where included files are
pub mod Paths
-- files by their paths
pub mod Libraries
-- the statements of a text with those of the files that it includes
pub mod Expansion
-- the numbers that are promised
pub mod Numbers
