-- how each assembler spells what they spell in different ways
pub mod Dialects
-- the names of the KERNAL's services
pub mod Kernal
-- the BASIC line that a program may begin with
pub mod BasicLine
-- which lines have labels
pub mod Places
-- the listing with labels
pub mod Named
-- items as another assembler spells them
pub mod Items
-- lines as another assembler spells them
pub mod Lines
-- the listing of a whole program
pub mod Listings
