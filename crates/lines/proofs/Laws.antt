pub mod Decimal
pub mod Hexadecimal
pub mod Lines
pub mod Names
pub mod Numbers
pub mod Reasons
pub mod Texts
