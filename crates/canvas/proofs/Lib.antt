pub mod Accepted
pub mod Stains
pub mod Determined
pub mod Reverse
pub mod Tails
pub mod Pictures
pub mod Rules
