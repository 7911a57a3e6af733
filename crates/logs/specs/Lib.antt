pub mod Counts
pub mod Logs
pub mod Walk
