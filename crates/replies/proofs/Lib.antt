pub mod Ops
pub mod Answered
pub mod Replies
pub mod Determined
