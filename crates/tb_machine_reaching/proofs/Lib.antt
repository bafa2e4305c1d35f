-- ── the ground ──
-- what an instruction does to a view
pub mod Acting
-- instructions at addresses that are not known as numbers
pub mod Instr
-- the laws of reaching
pub mod Laws
-- a reader that reads more gives the same
pub mod Readers
-- what the ROM and the program may write
pub mod Memory
-- ── from view to view ──
-- the machine does what the view says
pub mod Act
-- one instruction, n instructions, one piece after another
pub mod Comes
-- CHROUT, CHRIN and GETIN; waiting, and returning home
pub mod Services
-- a routine that is called
pub mod Calls
-- TSX and TXS
pub mod StackPointer
-- instructions and data at addresses that a proof gives
pub mod Placed
-- the bytes of a program as its parts
pub mod Parts
-- ── from the start to the end ──
-- the view of an arbitrary start
pub mod Start
-- the ends of a run, and that nothing goes wrong on the way
pub mod Ends
-- the program that sends a line
pub mod HelloRuns
-- addresses that nothing on the way may be at
pub mod Barred
