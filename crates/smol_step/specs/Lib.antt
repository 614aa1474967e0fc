pub mod Advance
pub mod Diffused
pub mod Meeting
pub mod Turns
