-- What the contracts of this crate mean. A text is a list of bytes, and a byte a number below 256.
pub mod Words
pub mod Verdicts
