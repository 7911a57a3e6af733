pub mod Between
pub mod Frame
pub mod Line
pub mod Written
pub mod Drawn
pub mod Snaked
pub mod Sweep
