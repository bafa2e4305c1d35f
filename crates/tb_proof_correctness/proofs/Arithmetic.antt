-- The laws of calculations.
-- what the law of every calculation is built on: its words, where they are, and its result where it goes
pub mod Calculated
-- the laws of sums and differences
pub mod Calculations
-- the law of a product, which can't fault: LINE is unchanged
pub mod Products
-- the laws of a division, which may fault: it sets the line's number just before its call
pub mod Divisions
-- the law of a quotient over a power of two, which is computed by shifts and can't fault
pub mod Shifts
-- the law of a product with a constant, which is computed by the constant's bits
pub mod Multiples
-- the laws of products and quotients: by routines, or, if one word is a constant, by its bits and by shifts
pub mod Constants
-- which calculations change a word in place, and what becomes of the word
pub mod Changes
-- the laws of changes in place: one more or less, by a constant, half, double
pub mod InPlace
-- a calculation that goes on by a constant is two calculations
pub mod Stepping
-- a word's quotient times the divisor is the word again if the remainder is 0, and how that is seen
pub mod Remainders
-- a remainder by a power of two: what its code does, and that it is the remainder with the word's sign
pub mod MaskedRests
-- what the code of a remainder by a constant's multiples does
pub mod Reductions
-- what the code of a remainder by differences does
pub mod Subtractions
-- the law of a variable's remainder: its slot instructions and its code give the remainder's size with its sign
pub mod Rests
