pub mod Checks
pub mod Walks
pub mod Each
pub mod Theorem
pub mod Withdrawn
