pub mod Ahead
pub mod OneResult
