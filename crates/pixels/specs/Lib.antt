pub mod Bytes
pub mod Hits
pub mod Rows
