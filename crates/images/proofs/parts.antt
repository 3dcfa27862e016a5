-- What is shown of a box.
pub mod Corners
pub mod Landed
