-- What the contracts of this crate mean, in the words and order of FIPS 197 (2001), whose sections the files name.
-- A byte is a number below 256; a word, a column or a key is a list of bytes.
pub mod Bytes
pub mod Field
pub mod Array
pub mod Substitution
pub mod Mixing
pub mod Rounds
pub mod Numbers
pub mod ByTables
pub mod Marked
