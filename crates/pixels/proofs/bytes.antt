-- The laws of a canvas's bytes.
pub mod Cells
pub mod Pixels
pub mod Places
pub mod Tails
