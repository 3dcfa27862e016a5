-- The laws of lines.
pub mod Good
pub mod Ways
pub mod Follows
pub mod Loops
