pub mod Passed
pub mod Closed
