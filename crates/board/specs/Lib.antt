pub mod Numbers
pub mod Blocks
pub mod Replies
pub mod Promises
