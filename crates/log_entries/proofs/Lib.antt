pub mod Examples
pub mod EntryBytes
pub mod Rising
pub mod Marks
