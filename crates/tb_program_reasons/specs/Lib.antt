-- the texts of reasons
pub mod Texts
-- why a file is not read or written
pub mod Files
-- why a file is no PRG file, or not on a disk
pub mod Prgs
-- which two paths lead to one file
pub mod Clashes
