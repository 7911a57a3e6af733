pub mod Leg
pub mod Plan
pub mod Drawing
pub mod Small
