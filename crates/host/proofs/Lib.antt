pub mod Packing
pub mod Answers
pub mod Accepted
pub mod Bench
pub mod Same
