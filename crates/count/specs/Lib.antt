pub mod Count
pub mod Order
pub mod ByColour
pub mod Longest
