-- names and their bytes
pub mod Names
-- the characters of a text as it is written
pub mod Characters
-- whole texts, and back
pub mod Texts
-- the nearest name
pub mod Near
-- the numbers that are promised
pub mod Numbers
