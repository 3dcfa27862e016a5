-- The laws of plots.
pub mod Fates
pub mod Draws
pub mod Paints
pub mod Answers
pub mod Landed
pub mod Dabs
pub mod Sides
