-- The bounds of angles and boxes.
pub mod Bounds
