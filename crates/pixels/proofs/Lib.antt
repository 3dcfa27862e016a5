pub mod Determined
pub mod Hits
pub mod Orders
