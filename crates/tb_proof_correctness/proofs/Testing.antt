-- The laws of tests.
-- where a test that fails leads: the beginning of the next line
pub mod Whereto
-- a test for equality, whose branches go to the next line or on
pub mod Tests
-- the order of two signed words by the flags after their difference
pub mod SignedOrder
-- a word compared with a constant, the highest bits of both turned, and the branch on C
pub mod Lifted
-- a test for order: N after the difference, turned if V is set, and the branch on it
pub mod Orders
-- the laws of the tests: of one that stays in the line or leaves it, and of one that goes straight to a line
pub mod TestLaws
-- what the code of a test by a divisor does: Z tells whether the remainder is 0, and the branch that tests it
pub mod LeftOver
-- the law of a test by a divisor: its slot instructions ask whether the remainder is 0, and where its code leads
pub mod DividesLaws
