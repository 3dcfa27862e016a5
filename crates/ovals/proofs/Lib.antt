pub mod Determined
pub mod Angles
