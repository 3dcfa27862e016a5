-- The laws of area copies.
pub mod Moves
