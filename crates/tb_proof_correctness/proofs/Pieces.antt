-- Pieces of code, each from view to view of the machine.
-- single instructions on an operand that is a constant byte or at an address, each from view to view
pub mod Sources
-- a branch, short or over a jump, leads to its target or to what follows it
pub mod Branches
-- pieces of code on words that are constants or at addresses
pub mod Sums
-- a word halved as a signed one, again and again: a quotient truncated toward zero; and a product by a factor's bits
pub mod Halves
-- shifts and sums on a word of which one byte is in A and the other in LEFT, each from view to view
pub mod ShiftSteps
