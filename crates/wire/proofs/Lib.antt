pub mod Stores
pub mod WholeFields
pub mod OneResult
