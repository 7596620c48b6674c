pub mod Numbered
pub mod OneResult
