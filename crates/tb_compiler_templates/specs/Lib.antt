-- ── pieces ──
-- the labels of a program's code
pub mod Labels
-- single instructions, and the pieces of code that all templates share
pub mod Templates
-- where operands come from, and where results go
pub mod Sources
-- ── words ──
-- products with a constant and quotients by shifts
pub mod Scaled
-- words that are changed in place
pub mod InPlace
-- multiples of a power of two, by the lowest bits
pub mod Masks
-- remainders by a constant, by its multiples
pub mod Reduced
-- remainders of bytes, by differences
pub mod Subtracted
-- the order of two signed words
pub mod Orders
-- ── groups and programs ──
-- the code of each group
pub mod GroupTemplates
-- the STOP key
pub mod Breaks
pub mod Putting
