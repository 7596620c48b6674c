pub mod Sums
pub mod Bounds
pub mod Refine
pub mod OneResult
