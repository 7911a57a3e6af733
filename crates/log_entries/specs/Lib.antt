pub mod Log
pub mod Marks
