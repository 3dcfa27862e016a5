pub mod Determined
pub mod Linked
