pub mod Examples
pub mod Checks
pub mod Drawing
pub mod Same
