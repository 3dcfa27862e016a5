pub mod Areas
pub mod Chunks
pub mod Parts
