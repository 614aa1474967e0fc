pub mod Coordinate
pub mod Fault
