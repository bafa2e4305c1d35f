-- ── groups and programs ──
-- how many bytes the code takes at most
pub mod Sizes
-- the search for the line of a computed jump
pub mod Search
-- the code of a whole program
pub mod Program
-- the addresses of a list of items
pub mod Layout
