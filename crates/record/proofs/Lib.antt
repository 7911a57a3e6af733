pub mod Walks
pub mod Made
pub mod Answers
pub mod Records
