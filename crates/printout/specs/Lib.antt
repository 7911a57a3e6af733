pub mod Text
pub mod Changes
