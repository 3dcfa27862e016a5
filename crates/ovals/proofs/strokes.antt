-- The laws of strokes.
pub mod Stroking
pub mod Quarters
pub mod Outlines
