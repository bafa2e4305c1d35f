-- The code of groups as instructions and as bytes.
-- the code of groups as instructions at their addresses
pub mod GroupCode
-- bytes of settled items, and the pieces of code that they are
pub mod Emits
-- the bytes of items without a branch, and forms cut after such items and after a branch
pub mod ItemBytes
-- the bytes of the code of single instructions
pub mod SingleBytes
-- the bytes of tests, whatever the ways of their branches
pub mod TestBytes
-- the bytes of calculations, also of those that change a word in place, whatever the way of the branch
pub mod ChangeBytes
-- the bytes of GOSUB and RETURN, whatever the ways of their branches; and with them those of every group
pub mod CallBytes
-- the bytes of groups, whatever the ways of their branches
pub mod GroupBytes
