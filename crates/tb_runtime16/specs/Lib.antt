-- ── addresses and bytes ──
-- where a program keeps its data, and where its routines begin
pub mod Addresses
-- the public constants are these addresses
pub mod Pinned
-- the bytes of the routine block
pub mod Block
-- ── the laws ──
-- what sending, calculations, Number and Random promise
pub mod Laws
-- what faults, polls and the prologue promise
pub mod Ends
-- what Input promises
pub mod Input
-- the return list: what Push and Pop promise
pub mod Returns
-- the line table: what Search promises
pub mod Search
-- all routines in one form, with one bound
pub mod Routines
