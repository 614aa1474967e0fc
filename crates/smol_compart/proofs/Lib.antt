pub mod Drawing
pub mod Placing
