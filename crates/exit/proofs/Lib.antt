pub mod Answers
pub mod Examples
pub mod Fitting
pub mod Most
pub mod Reading
pub mod Theorem
pub mod TopLeft
pub mod Twelve
