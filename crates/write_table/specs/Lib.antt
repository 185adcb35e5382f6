-- What the contracts of this program mean. A text is a list of bytes, and a byte a number below 256.
pub mod Hexadecimal
pub mod Line
pub mod Text
pub mod Listing
pub mod Step
