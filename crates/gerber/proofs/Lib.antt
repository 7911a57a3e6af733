pub mod Examples
pub mod Plots
pub mod Heads
