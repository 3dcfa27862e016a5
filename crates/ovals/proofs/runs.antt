-- The laws of rows and regions.
pub mod Sifts
pub mod Asked
pub mod Rows
pub mod Regions
