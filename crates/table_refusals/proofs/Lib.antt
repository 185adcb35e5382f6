-- What the proofs cite, apart from any function.
pub mod Laws
