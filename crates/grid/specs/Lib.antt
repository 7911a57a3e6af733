pub mod Panel
pub mod Track
pub mod Reading
pub mod Bytes
pub mod Refusal
pub mod Check
pub mod Answer
