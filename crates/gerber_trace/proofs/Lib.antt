pub mod Examples
pub mod Lines
pub mod Turns
pub mod RoundTrip
