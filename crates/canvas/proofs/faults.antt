-- What the faults of a canvas mean.
pub mod Limits
pub mod Verdicts
