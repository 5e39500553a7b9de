pub mod Later
pub mod Answers
