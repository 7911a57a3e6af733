pub mod List
pub mod Check
