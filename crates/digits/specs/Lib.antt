-- What the contracts of this crate mean. A word is a list of bytes, and a byte a number below 256.
pub mod Hexadecimal
pub mod Numbers
pub mod Salts
