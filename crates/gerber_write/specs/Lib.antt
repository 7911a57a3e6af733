pub mod Write
pub mod Sink
pub mod Taken
