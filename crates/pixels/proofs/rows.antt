-- The laws of rows and boxes of pixels.
pub mod Rows
pub mod Parts
