pub mod Lines
pub mod Form
pub mod Answers
