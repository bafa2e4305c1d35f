-- what is wrong, in words
pub mod Causes
-- words of lines
pub mod Words
-- names that are near a word
pub mod Near
-- what helps
pub mod Notes
-- what there is to say of a text
pub mod Reports
-- the numbers that are promised
pub mod Numbers
