pub mod Among
pub mod Cuts
pub mod Made
