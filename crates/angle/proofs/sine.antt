-- What the proofs of the sine and the cosine use.
pub mod Units
pub mod Held
pub mod Numbers
pub mod Doubles
pub mod Products
pub mod Powers
pub mod Coefficients
pub mod Poly
pub mod Turns
pub mod Rest
pub mod Narrowed
pub mod Minus
pub mod Left
pub mod Steps
pub mod Bounded
pub mod Within
