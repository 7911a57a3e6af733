pub mod Decimals
pub mod Reading
pub mod Numbers
pub mod Fronts
pub mod Puts
