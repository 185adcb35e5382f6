-- What is proved of the contracts, apart from any function.
mod Laws
pub mod OneAnswer
pub mod Theorems
