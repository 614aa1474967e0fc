mod Times
mod Marks
pub mod SpeciesCounts
mod Ranks
mod Added
mod Spaced
pub mod Effects
