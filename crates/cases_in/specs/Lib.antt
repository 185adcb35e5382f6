-- What the contracts of this crate mean.
pub mod Bytes
pub mod Modes
pub mod Sessions
