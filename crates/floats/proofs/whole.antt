-- What the proofs of `round` and `ceil` use.
pub mod Halves
pub mod Signed
pub mod Ceil
pub mod Nudged
pub mod Lifted
