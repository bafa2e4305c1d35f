-- How a view of the machine matches a state of the slot code, and what of that is kept.
-- what surrounds a group's code while a program runs
pub mod Surroundings
-- how a view of the machine represents a state of the slot code, slots only as far as they are read
pub mod Matching
-- operands of a group: what their ranges give, and what the relation says about them
pub mod Operands
-- when a group begins, and what holds after a calculation
pub mod Ready
-- what is kept of the weaker relation when a word is written to where a result goes
pub mod Landing
-- what is kept of the weaker relation while the code of an instruction runs
pub mod Frames
-- what holds while the code of a group runs, and after it
pub mod GroupInvariants
-- the weaker relation when a line begins: from the old one, with nothing known about the slots, and on into the line
pub mod Beginnings
-- after the last group of a line the next line begins
pub mod Falling
