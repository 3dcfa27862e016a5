pub mod Blend
pub mod Inner
pub mod Loops
