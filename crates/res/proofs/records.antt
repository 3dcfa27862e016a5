-- What a record's step is.
pub mod Steps
