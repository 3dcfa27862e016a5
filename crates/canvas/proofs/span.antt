-- The laws of spans and of signed numbers above the least one.
pub mod Lifts
pub mod Spans
pub mod Differences
pub mod Sources
pub mod Corners
