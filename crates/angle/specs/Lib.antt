pub mod Meaning
pub mod Sine
pub mod Arctangent
pub mod Stroke
