-- What the contracts of this crate mean. A word of the command line is a list of bytes, and a byte a number below 256.
pub mod Bytes
pub mod Hexadecimal
pub mod Listed
pub mod Names
pub mod ReadBack
pub mod Style
