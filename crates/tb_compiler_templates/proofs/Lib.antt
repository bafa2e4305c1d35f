-- ── the code of groups ──
-- what several pieces append
pub mod Appends
-- the bits of a factor
pub mod Bits
-- instructions that name no label
pub mod Plain
-- lists of items whose labels rise
pub mod Rising
-- remainders by a constant's multiples
pub mod Multiples
-- the binary search in line numbers
pub mod Searched
