pub mod Degrees
pub mod Size
pub mod Whole
