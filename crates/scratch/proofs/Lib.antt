pub mod Places
pub mod Marks
pub mod Clean
