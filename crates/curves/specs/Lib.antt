pub mod Oval
pub mod Strokes
pub mod Pies
pub mod Corners
pub mod Bulges
