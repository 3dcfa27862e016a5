pub mod Near
pub mod Sides
pub mod Determined
