-- What a pixel read means.
pub mod Looks
