pub mod Session
pub mod Edits
