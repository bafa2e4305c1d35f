-- pieces of code, each from view to view of the machine
pub mod Pieces
-- how a view of the machine matches a state of the slot code, and what of that is kept
pub mod Relation
-- what the slot instructions of a group do, and what they read
pub mod Slots
-- the laws of calculations
pub mod Arithmetic
-- the laws of tests
pub mod Testing
-- the laws of instructions that are groups of their own, and of uses of a word
pub mod Alone
-- the code of groups as instructions and as bytes
pub mod CodeBytes
-- how that code is laid out in a program's image
pub mod Image
-- from the laws of groups to the program
pub mod Whole
