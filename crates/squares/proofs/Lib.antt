pub mod Examples
pub mod Facts
pub mod Counted
pub mod TwoByTwo
pub mod Turns
