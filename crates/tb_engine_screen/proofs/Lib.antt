mod Talking
mod Leaving
mod Starting
