-- ── the code of groups ──
-- items have forms that exist, and may be moved
pub mod Accepted
-- tests by a divisor, and which divisors are tested by bits
pub mod Divided
-- which products and quotients are by bits and shifts
pub mod Factors
-- the code of a program is no longer than its cost
pub mod Fitting
-- what holds of code that is chosen by cases
pub mod Listed
-- the labels of a whole program rise
pub mod Ordered
-- a program costs no less than its instructions do
pub mod Prices
-- groups are in range, and no more than instructions
pub mod Ranged
-- each label that the code names is known
pub mod Reached
-- remainders of bytes by differences
pub mod Subtractions
-- texts of one byte
pub mod Sent
-- worked rows: the items of lines
pub mod Rows
-- ── settling and assembling ──
-- a program's code can be settled and assembled
pub mod Taken
-- where lines and labels are among settled items
pub mod Settled
-- no label is there twice, and each gives its own address
pub mod Woven
