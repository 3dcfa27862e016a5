pub mod Answers
pub mod Bitmaps
pub mod Icons
pub mod Determined
