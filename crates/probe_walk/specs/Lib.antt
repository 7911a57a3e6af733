pub mod Probes
pub mod Search
