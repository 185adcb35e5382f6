-- What is proved of the definitions in specs/, apart from any function. The crates above cite Promises and Theorems; Laws is closed to them.
mod Laws
pub mod ARefusalChangesNothing
pub mod Differences
pub mod NothingIsLost
pub mod OneAnswer
pub mod Promises
pub mod TwoPaths
pub mod TheDigest
pub mod Theorems
