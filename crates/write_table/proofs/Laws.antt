pub mod Hexadecimal
pub mod Line
pub mod Text
pub mod Listing
