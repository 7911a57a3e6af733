pub mod Exit
pub mod First
pub mod Most
