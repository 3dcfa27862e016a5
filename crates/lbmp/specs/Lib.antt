pub mod Plane
pub mod File
pub mod Faults
pub mod Image
pub mod Call
pub mod Walk
