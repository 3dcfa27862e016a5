pub mod Format
pub mod Word
pub mod Table
pub mod Ink
pub mod Invert
