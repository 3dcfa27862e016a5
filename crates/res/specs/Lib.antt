pub mod Record
pub mod Search
