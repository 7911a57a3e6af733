pub mod Examples
pub mod Heads
