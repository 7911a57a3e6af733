pub mod Takes
pub mod Lines
pub mod Draws
pub mod Made
