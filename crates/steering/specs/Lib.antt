-- What the contracts of this crate mean. A table is a list of bytes, and a byte a number below 256.
pub mod Numbers
pub mod Records
pub mod Kinds
pub mod Answers
pub mod Reading
pub mod Standing
pub mod Parsing
pub mod Writing
pub mod Fingerprint
