pub mod Judge
pub mod Walk
