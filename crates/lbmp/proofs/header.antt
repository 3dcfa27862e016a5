-- The parts of a file.
pub mod Parts
