-- What the proofs of strokes use.
pub mod Sixteen
