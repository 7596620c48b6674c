pub mod Loops
pub mod Steps
pub mod Refines
