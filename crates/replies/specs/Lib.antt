pub mod Numbers
pub mod Calls
pub mod Answers
pub mod Replies
