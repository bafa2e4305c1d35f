mod Bytes
mod Taken
