-- What is proved of the contracts, apart from any function. The crates above cite Promises; Laws is closed to them.
mod Laws
pub mod OneAnswer
pub mod Promises
