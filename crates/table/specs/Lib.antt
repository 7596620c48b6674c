pub mod Memory
pub mod Walk
pub mod Answers
