pub mod Simulation
pub mod EndOfRun
pub mod Parts
pub mod Due
pub mod Faults
