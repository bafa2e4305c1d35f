mod Bytes
mod Fixed
