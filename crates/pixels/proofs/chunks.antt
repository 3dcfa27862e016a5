-- The laws of chunks.
pub mod Chunks
