pub mod Search
pub mod Accepted
pub mod Determined
