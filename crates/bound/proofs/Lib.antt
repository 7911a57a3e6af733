pub mod Answers
pub mod Sides
