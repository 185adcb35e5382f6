pub mod Modes
pub mod Lowest
pub mod Exactly
pub mod WholeBytes
