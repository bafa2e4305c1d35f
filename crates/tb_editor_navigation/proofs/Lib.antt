-- texts that are UTF-8, or not
mod Utf8
