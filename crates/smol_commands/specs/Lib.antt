pub mod Phase
pub mod Performs
