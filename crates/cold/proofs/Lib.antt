pub mod Examples
pub mod Uncovered
pub mod Theorem
