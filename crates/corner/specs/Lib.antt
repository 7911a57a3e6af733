pub mod Corner
pub mod Cells
pub mod Peel
pub mod Drawn
