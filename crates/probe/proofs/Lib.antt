pub mod Checks
pub mod Theorem
