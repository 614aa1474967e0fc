pub mod Series
pub mod Rates
