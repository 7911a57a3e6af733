pub mod Pairs
pub mod Positions
pub mod Unfound
pub mod Nearest
pub mod Marks
pub mod Walks
pub mod Sheets
