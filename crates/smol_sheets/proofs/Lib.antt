mod Barring
pub mod Near
pub mod Numbered
pub mod Stretches
