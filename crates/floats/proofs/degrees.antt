-- What the proofs of the remainder by 360 use.
pub mod Parts
pub mod Turns
