pub mod Chosen
pub mod Count
pub mod First
pub mod Track
pub mod Forward
pub mod Backward
