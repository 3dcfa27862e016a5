-- The laws of walks over words.
pub mod Walks
pub mod Places
pub mod Images
