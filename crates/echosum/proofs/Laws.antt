pub mod Hexadecimal
pub mod Listed
pub mod Names
pub mod Style
