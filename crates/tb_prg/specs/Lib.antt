pub mod Prg
