pub mod Track
pub mod Drawing
pub mod Answer
pub mod Sides
pub mod Examples
