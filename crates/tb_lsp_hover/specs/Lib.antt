pub mod Words
pub mod About
pub mod Numbers
pub mod Texts
pub mod Shown
