-- What the contracts of this crate mean. A byte is a number below 256; keys, texts and tags are lists of bytes.
pub mod DoublePipe
pub mod Hmac
pub mod Same
pub mod Answers
pub mod TagSession
pub mod Routines
pub mod TagPieces
