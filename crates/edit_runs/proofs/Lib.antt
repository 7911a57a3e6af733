pub mod Step
pub mod Records
pub mod Theorem
