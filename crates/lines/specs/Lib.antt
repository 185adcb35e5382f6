-- What the contracts of this crate mean. A text is a list of bytes, and a byte a number below 256.
pub mod Decimal
pub mod Hexadecimal
pub mod Lines
pub mod Names
pub mod Reasons
