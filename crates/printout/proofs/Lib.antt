pub mod Texts
pub mod Corners
