-- The laws of boxes.
pub mod Boxes
pub mod Outline
pub mod Chains
