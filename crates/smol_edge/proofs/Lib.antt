pub mod Telling
pub mod Pieces
pub mod PieceFronts
pub mod Fronts
pub mod Files
pub mod OutletBytes
