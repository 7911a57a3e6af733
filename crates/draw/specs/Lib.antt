pub mod Track
pub mod Draw
