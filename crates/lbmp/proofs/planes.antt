-- The laws of planes.
pub mod Sizes
pub mod Totals
pub mod Bits
