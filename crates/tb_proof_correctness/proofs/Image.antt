-- How that code is laid out in a program's image.
-- a program whose settled code lies where its labels say is laid out as the laws of the groups want it
pub mod Laying
-- settled code that is laid from the block's address is laid as its labels say
pub mod Imaged
-- the routines and the prologue of an image do what the code of its lines needs of them
pub mod Served
-- the settled code of lines is laid out as the laws of the groups want it
pub mod Lines
