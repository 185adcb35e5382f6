-- What the contracts of this crate mean, beyond the definitions of the layers below.
pub mod Answers
pub mod Modes
pub mod Tables
