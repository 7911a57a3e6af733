pub mod Line
pub mod Order
