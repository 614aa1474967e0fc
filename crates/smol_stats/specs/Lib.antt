pub mod Tally
pub mod Bins
pub mod Sums
pub mod Radial
