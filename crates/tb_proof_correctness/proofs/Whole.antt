-- From the laws of groups to the program.
-- the law of each group, and from them that of the step
pub mod GroupLaws
-- each run by groups is one by slot instructions
pub mod GroupStrides
-- where the lines of a program that is laid by groups begin
pub mod GroupStarts
-- the code of a program by groups keeps the program, and marks its lines
pub mod GroupWhole
-- a program's settled code after a line of BASIC keeps the program, and marks its lines
pub mod Compiled
