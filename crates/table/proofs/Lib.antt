pub mod Below
pub mod Rows
pub mod Placed
