-- a mnemonic has three letters
pub mod Named
-- tokens read one after the other
pub mod Passing
-- what stands between commas
pub mod Segments
-- expressions read token by token
pub mod Reading
-- lists that are read part by part
pub mod Parts
-- labels before other statements
pub mod Labels
