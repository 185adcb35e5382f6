pub mod Hexadecimal
pub mod Numbers
pub mod Salts
