-- The laws of drawing images.
pub mod Overlays
