pub mod Examples
pub mod Ticks
pub mod Tallies
pub mod Passing
pub mod Walks
pub mod Passed
pub mod Theorem
