pub mod Faults
pub mod Strokes
pub mod Curves
pub mod Call
pub mod Sift
