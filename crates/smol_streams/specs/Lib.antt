pub mod Chance
pub mod Displacement
pub mod Generator
pub mod Words
