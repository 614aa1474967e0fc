pub mod Boxes
pub mod Built
pub mod Example
pub mod Laws
