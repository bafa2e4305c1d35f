mod Exchanging
mod Opening
mod Talking
