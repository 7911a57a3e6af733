pub mod Along
pub mod Rectangle
pub mod Line
pub mod Sweep
pub mod Drawn
