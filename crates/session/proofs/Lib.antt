pub mod Examples
pub mod Leaving
