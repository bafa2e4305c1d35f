pub mod Parts
pub mod PlainData
pub mod Same
pub mod Source
pub mod Texts
