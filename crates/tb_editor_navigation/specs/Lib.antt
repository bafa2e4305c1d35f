pub mod Values
pub mod Places
pub mod Remarks
pub mod Symbols
pub mod Folds
pub mod Tokens
