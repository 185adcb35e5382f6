-- What is proved of this crate, apart from its functions.
mod Laws
