-- What the contracts of this crate mean, in the words and order of the ECHO 2.0 paper, Part I, whose sections the files name.
-- A byte is a number below 256; words, squares, blocks and chaining values are lists of bytes.
pub mod Bits
pub mod Numbers
pub mod Families
pub mod Refusals
pub mod Answers
pub mod Square
pub mod Compression
pub mod SinglePipe
pub mod Routines
pub mod Padding
pub mod Digest
pub mod Session
pub mod Pieces
pub mod Placed
