-- The laws of pies and round fills.
pub mod Sieves
