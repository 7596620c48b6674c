pub mod Answers
pub mod Below
pub mod Numbers
pub mod Text
