pub mod Coded
pub mod Compiled
-- what the compiler says of its own programs
pub mod Templates
