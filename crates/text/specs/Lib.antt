pub mod Ascii
pub mod Front
pub mod Decimal
pub mod Field
pub mod Put
pub mod Part
