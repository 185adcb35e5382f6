-- What is proved of the definitions in specs/, apart from any function.
mod Laws
pub mod ARefusalChangesNothing
pub mod Differences
pub mod OneAnswer
pub mod TheTag
pub mod Theorems
