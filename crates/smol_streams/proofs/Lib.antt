pub mod Draws
pub mod Scales
pub mod Sizes
