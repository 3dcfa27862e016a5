-- What the faults of a file mean.
pub mod Verdicts
