pub mod Places
pub mod Words
pub mod Layout
pub mod Tests
pub mod Image
